pub mod Words
pub mod Machines
pub mod Verdict
pub mod Answer
pub mod Faults
pub mod Program
pub mod Shards
