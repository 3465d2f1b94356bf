pub mod Summaries
pub mod Made
pub mod Work
pub mod Profiles
pub mod Plain
pub mod Worth
pub mod Subjects
