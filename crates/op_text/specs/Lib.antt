pub mod OpText
pub mod Steps
pub mod Slots
pub mod Shapes
pub mod Operations
pub mod Example
pub mod KindText
