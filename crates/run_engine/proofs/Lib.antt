pub mod Keys
pub mod Many
pub mod Begin
pub mod Ticks
pub mod Grown
pub mod Moves
pub mod Law
pub mod Usual
pub mod Far
pub mod WordMarks
mod Rows
pub mod Advance
pub mod Quiet
pub mod Once
pub mod Choices
mod Numbers
