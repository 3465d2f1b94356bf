pub mod Scanning
pub mod LabelOrder
pub mod Groups
pub mod Sorted
