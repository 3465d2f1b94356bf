pub mod FirstGroups
pub mod Sorting
pub mod Spellings
pub mod Scans
pub mod LabelOrder
