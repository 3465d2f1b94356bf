pub mod Words
pub mod Code
pub mod Steps
