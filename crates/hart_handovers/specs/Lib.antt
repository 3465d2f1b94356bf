pub mod Path
pub mod Handovers
pub mod Laws
