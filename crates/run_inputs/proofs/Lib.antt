pub mod Faults
pub mod Indexed
pub mod Judged
pub mod Telling
pub mod Serving
mod Reading
mod Numbers
