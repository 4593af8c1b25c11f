pub mod Verdict
pub mod Least
pub mod VerdictText
pub mod Example
