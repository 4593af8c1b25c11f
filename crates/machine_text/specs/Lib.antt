pub mod Checks
pub mod Fast
pub mod FaultText
pub mod Field
pub mod Machine
pub mod Place
pub mod Texts
