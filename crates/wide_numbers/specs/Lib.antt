pub mod Root
pub mod Wide
