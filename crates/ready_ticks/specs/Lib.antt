pub mod Ready
pub mod Waits
pub mod Laws
