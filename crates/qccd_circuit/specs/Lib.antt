pub mod Item
pub mod Sharing
pub mod Operands
pub mod Order
pub mod Exchanges
pub mod Marks
pub mod Circuit
pub mod Example
