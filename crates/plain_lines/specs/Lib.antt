pub mod Behind
pub mod Flags
pub mod PlainLaws
pub mod PlainLines
