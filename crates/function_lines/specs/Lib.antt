pub mod SameProgram
pub mod WithLines
pub mod ByFunction
