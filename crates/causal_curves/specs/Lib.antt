pub mod Curves
pub mod Texts
pub mod Measured
