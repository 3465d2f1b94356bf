pub mod Tables
pub mod Faults
pub mod Pages
pub mod Loaded
