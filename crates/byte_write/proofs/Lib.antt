mod Appends
pub mod Groups
