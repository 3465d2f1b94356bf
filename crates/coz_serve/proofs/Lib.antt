mod ByStatus
pub mod Informed
pub mod Refused
pub mod Served
