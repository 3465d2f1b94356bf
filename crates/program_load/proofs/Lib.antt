pub mod Shared
pub mod Naming
pub mod Sections
pub mod Tables
pub mod Loads
pub mod Files
mod Examples
