pub mod Worked
pub mod Jobs
