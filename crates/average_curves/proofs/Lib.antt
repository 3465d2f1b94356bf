pub mod Lines
pub mod Ranks
pub mod Rankings
pub mod Sound
mod Examples
