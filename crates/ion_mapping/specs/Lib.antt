pub mod Placement
pub mod Taking
pub mod Circuits
