pub mod Lawful
pub mod Machines
pub mod Usual
