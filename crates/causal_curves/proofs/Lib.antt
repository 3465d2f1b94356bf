pub mod Gains
pub mod Ranks
pub mod Rankings
