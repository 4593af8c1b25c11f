pub mod Cold
pub mod Example
pub mod Kept
pub mod Opening
pub mod Place
pub mod Plan
