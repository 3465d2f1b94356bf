pub mod Along
mod Blocks
pub mod Counts
pub mod Escapes
pub mod Finds
pub mod Least
mod Looked
mod Placed
mod Rights
mod ShortFiles
mod Utf8
pub mod Turns
mod MeanOrder
mod Worked
