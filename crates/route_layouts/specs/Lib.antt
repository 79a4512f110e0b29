pub mod Addresses
pub mod Conversion
pub mod Faults
pub mod Fields
pub mod Layouts
pub mod Places
pub mod Systems
pub mod Walk
