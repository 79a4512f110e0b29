pub mod Agreeing
pub mod Answers
pub mod Faults
pub mod Flags
pub mod Interfaces
pub mod Reasons
pub mod Sockets
pub mod Table
