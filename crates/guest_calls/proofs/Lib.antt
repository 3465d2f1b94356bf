pub mod Shared
pub mod Steps
pub mod Strides
pub mod Rows
pub mod Among
pub mod Waiting
mod Keeping
mod Rousing
pub mod Vectors
pub mod RunningHarts
pub mod Started
pub mod ByNumber
pub mod ThreadRows
pub mod PipeRows
mod Clocks
pub mod TimeRows
pub mod Retired
pub mod Law
pub mod PipeCalls
mod Numbers
