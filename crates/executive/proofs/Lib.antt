pub mod CaughtUp
pub mod Finished
pub mod LastTurns
pub mod OwnTurns
pub mod Teams
