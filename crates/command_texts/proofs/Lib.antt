pub mod Flat
pub mod IndexText
mod Examples
