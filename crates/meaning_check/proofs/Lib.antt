pub mod Leasts
pub mod Overtakes
pub mod Deciding
pub mod Firsts
pub mod Verdicts
pub mod Implementing
pub mod Going
pub mod Examples
