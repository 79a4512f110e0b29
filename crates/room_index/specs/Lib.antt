pub mod Filed
pub mod Homes
pub mod Looks
pub mod Names
pub mod Places
pub mod Ranges
pub mod Sizes
