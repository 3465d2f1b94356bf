pub mod Ties
pub mod Held
pub mod Twice
pub mod Fine
pub mod Whole
pub mod Law
