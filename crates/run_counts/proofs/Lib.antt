pub mod Counted
pub mod Undelayed
mod Examples
pub mod Adding
pub mod Within
pub mod Ended
pub mod Following
