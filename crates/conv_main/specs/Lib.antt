pub mod CommandLine
pub mod Converted
pub mod Ends
pub mod Messages
pub mod Pieces
pub mod Progress
