pub mod FirstFailing
pub mod Greatest
pub mod Line
pub mod Names
pub mod Numbers
pub mod Resource
pub mod Times
