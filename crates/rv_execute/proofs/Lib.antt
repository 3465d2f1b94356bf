pub mod HeldLemmas
mod Worked
pub mod Orderly
pub mod Kept
