pub mod Firsts
pub mod Filling
pub mod Steps
pub mod Full
