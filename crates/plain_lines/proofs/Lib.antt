pub mod CommandsKept
pub mod Cutting
pub mod FlagsRead
pub mod HexWords
pub mod PartedWords
pub mod PlainTwice
pub mod PutLemmas
