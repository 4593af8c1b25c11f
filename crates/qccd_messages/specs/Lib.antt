pub mod Cause
pub mod Message
