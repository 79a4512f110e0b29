pub mod Addresses
pub mod Laws
pub mod Names
pub mod Parts
pub mod Room
pub mod Rows
pub mod Tables
pub mod Texts
