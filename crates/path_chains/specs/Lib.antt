pub mod Path
pub mod Segments
pub mod Shares
