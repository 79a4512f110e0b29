pub mod DumpLaws
pub mod Dumps
