pub mod Heaviest
pub mod Chains
pub mod Tiling
mod Examples
mod Sorting
