pub mod Capacities
pub mod Options
