pub mod Slots
pub mod Said
pub mod Law
pub mod Examples
