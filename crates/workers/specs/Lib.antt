pub mod Kind
pub mod Sweep
pub mod Window
pub mod Worker
