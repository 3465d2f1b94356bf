pub mod Events
pub mod Recording
pub mod Walk
pub mod Laws
