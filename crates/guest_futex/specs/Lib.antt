pub mod Waiters
pub mod Apart
pub mod Held
