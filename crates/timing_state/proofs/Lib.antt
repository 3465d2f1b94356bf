pub mod Maps
pub mod Line
pub mod Turns
pub mod Noting
pub mod Kept
pub mod Drawn
mod InLine
