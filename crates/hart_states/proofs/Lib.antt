pub mod Lives
pub mod Tiling
pub mod Making
pub mod Examples
