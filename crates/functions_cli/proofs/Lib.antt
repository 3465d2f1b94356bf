mod Parsing
mod Informed
mod Judging
mod Judged
mod Naming
mod One
pub mod Served
