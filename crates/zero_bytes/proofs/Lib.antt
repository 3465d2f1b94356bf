pub mod Written
pub mod Filled
pub mod Flat
pub mod Changed
