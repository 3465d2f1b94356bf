pub mod Alike
mod FirstLines
mod Loaded
mod Named
pub mod One
mod SameAreas
mod Soundness
mod Whole
