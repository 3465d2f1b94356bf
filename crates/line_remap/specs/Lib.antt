pub mod Locations
pub mod Marks
pub mod Sound
pub mod Runs
