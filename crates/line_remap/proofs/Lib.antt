pub mod Adding
mod Escapes
pub mod Texts
