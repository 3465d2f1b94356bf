pub mod Functions
pub mod Labels
pub mod Sequences
