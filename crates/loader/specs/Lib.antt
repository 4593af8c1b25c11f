pub mod Refusal
pub mod Marked
pub mod Written
pub mod FaultText
