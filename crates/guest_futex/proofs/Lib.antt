pub mod WaitersLemmas
pub mod Left
pub mod Pass
mod Order
