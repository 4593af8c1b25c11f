pub mod Stage
pub mod Stages
pub mod Means
pub mod Call
pub mod Done
pub mod Headline
pub mod Promises
