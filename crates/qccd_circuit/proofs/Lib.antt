pub mod CircuitLemmas
pub mod Ranges
pub mod Reading
pub mod Shared
pub mod MarkLemmas
pub mod Rising
pub mod OwnOrder
pub mod Exchanging
