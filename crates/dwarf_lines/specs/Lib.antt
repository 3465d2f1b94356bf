pub mod Registers
pub mod Spelling
pub mod Zeros
pub mod Names
pub mod Reading
pub mod Bounds
pub mod Views
pub mod Law
