pub mod Dot
pub mod Drawing
pub mod Laws
pub mod Steps
pub mod Svg
pub mod Tree
