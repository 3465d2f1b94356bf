pub mod Lists
pub mod Selected
pub mod Pairs
pub mod ByLine
