pub mod Credited
pub mod DelayedRun
pub mod Lead
