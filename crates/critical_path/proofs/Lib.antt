pub mod Turns
pub mod Grown
pub mod Traced
pub mod Recorded
pub mod Turned
mod Rows
pub mod Begun
pub mod Walking
pub mod Usual
pub mod Froms
