pub mod Experiment
pub mod Verdict
pub mod Answer
