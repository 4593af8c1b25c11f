pub mod Runs
pub mod Tokens
pub mod Gaps
pub mod Reading
pub mod Fronts
