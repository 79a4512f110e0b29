pub mod Digits
pub mod Ends
pub mod Faults
pub mod Progress
pub mod Shown
