pub mod Tiling
pub mod Rooting
mod Examples
