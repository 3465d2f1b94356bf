pub mod Standing
pub mod Changes
pub mod TicksLemmas
mod Worked
