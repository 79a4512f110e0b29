pub mod Commanding
pub mod Indenting
pub mod Reaching
pub mod Rewording
pub mod Running
pub mod Turning
pub mod Untold
