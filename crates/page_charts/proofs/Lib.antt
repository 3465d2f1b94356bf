pub mod Pieces
pub mod Choices
mod Numbers
