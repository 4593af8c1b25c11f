pub mod Kind
pub mod Team
