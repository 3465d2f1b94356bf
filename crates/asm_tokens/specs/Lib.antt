pub mod Tokens
pub mod Registers
pub mod Table
pub mod Views
