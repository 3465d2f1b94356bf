pub mod Hexadecimals
pub mod Images
pub mod WrittenPaths
pub mod Labels
mod Numbers
