pub mod Curves
pub mod Texts
