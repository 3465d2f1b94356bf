pub mod Gathering
pub mod Stable
pub mod Searching
pub mod Numbers
