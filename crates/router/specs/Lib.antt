pub mod Wiring
pub mod Paths
pub mod Hops
pub mod Steps
pub mod Greedy
pub mod Counts
pub mod Tables
pub mod Wired
