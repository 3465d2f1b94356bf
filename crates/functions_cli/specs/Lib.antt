pub mod Regions
pub mod Words
pub mod Parse
pub mod Verdict
pub mod Answer
pub mod Faults
pub mod Program
pub mod Serve
