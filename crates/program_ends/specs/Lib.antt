pub mod CommandLine
pub mod Endings
pub mod Outcomes
pub mod Reads
pub mod Refusals
