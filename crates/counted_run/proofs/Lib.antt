pub mod Folding
pub mod Counting
pub mod Recorded
