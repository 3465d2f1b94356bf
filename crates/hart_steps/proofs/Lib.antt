pub mod Steady
pub mod AsFirst
pub mod Unstored
pub mod Intact
pub mod Going
pub mod Stepped
