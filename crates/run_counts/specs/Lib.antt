pub mod Beginnings
pub mod Counts
