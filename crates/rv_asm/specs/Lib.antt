pub mod Statements
pub mod Assembled
pub mod Views
