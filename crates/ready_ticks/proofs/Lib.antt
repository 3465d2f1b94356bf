mod Changes
pub mod Told
pub mod Nobody
mod Moves
pub mod Passing
mod Shorter
