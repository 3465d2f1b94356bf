pub mod Headline
pub mod Shards
