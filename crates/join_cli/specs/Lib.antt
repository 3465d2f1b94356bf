pub mod Shards
pub mod Ranges
