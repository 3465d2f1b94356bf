pub mod Within
pub mod Summing
mod Lines
mod Making
pub mod PlainRun
mod Long
mod Usual
pub mod Choices
