pub mod Leb
mod LineProgram
mod Lengths
mod LineOf
pub mod UnitReads
mod Worked
