pub mod Levels
pub mod Direct
pub mod Graph
pub mod Linking
pub mod Ready
