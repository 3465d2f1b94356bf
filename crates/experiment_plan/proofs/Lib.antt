pub mod Bools
pub mod Numbers
pub mod Cuts
pub mod Among
pub mod Rising
pub mod Together
pub mod Naming
pub mod Pairing
pub mod Lines
mod Most
