pub mod Values
pub mod Charts
