pub mod Addresses
pub mod BestFirst
pub mod ColumnsEnded
pub mod FlagNames
pub mod Ranges
pub mod StandingAddresses
