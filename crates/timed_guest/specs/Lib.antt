pub mod Guest
pub mod Retire
pub mod Lines
pub mod Plug
pub mod Orderly
pub mod Counts
pub mod Runs
pub mod Laws
