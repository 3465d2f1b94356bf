pub mod Faults
pub mod FileFaults
pub mod Info
pub mod Serves
pub mod Written
