pub mod Regions
pub mod Lines
pub mod Tree
