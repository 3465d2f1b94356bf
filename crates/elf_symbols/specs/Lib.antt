pub mod Symbols
pub mod Code
