pub mod Ticks
pub mod State
