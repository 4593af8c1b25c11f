pub mod LevelLemmas
pub mod DirectLemmas
pub mod Linked
pub mod Free
pub mod Taking
pub mod Rounds
