pub mod PathText
pub mod Segments
pub mod Shares
