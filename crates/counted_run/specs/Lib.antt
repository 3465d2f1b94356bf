pub mod Begun
pub mod CountedRun
