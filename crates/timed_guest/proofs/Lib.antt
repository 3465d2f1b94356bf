mod Line
mod Counted
pub mod Sleepers
pub mod Steps
pub mod Law
pub mod Alone
pub mod Growing
pub mod Follow
pub mod Held
pub mod Counting
pub mod WordLines
