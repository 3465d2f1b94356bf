pub mod Unit
pub mod Lines
pub mod Answers
