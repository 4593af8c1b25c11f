pub mod Outside
pub mod Hop
pub mod Room
pub mod Moves
pub mod Goal
pub mod Example
