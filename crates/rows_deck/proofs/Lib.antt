pub mod Readied
