pub mod Examples
pub mod Counting
pub mod Hashing
