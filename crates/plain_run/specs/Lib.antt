pub mod PlainRun
pub mod Noting
pub mod Laws
