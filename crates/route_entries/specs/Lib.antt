pub mod Addresses
pub mod Blocks
pub mod Forms
pub mod Packing
pub mod Routes
