pub mod Reservations
pub mod Held
pub mod Execution
pub mod Laws
