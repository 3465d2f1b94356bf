pub mod Answers
pub mod Marks
pub mod Space
pub mod Kept
pub mod Entry
