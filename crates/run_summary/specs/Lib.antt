pub mod Kept
pub mod Summaries
