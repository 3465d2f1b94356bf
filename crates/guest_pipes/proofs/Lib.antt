pub mod FreeSlots
pub mod Bytes
pub mod WaitersLemmas
pub mod First
mod Worked
pub mod Readiness
mod Numbers
