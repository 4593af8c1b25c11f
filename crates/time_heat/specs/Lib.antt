pub mod Duration
pub mod Heat
pub mod Sums
