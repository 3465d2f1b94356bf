pub mod Steps
pub mod Room
mod Worked
