pub mod Delays
pub mod Seats
pub mod Ticks
