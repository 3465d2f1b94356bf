pub mod FaultLines
pub mod LineTable
pub mod Selection
pub mod Verdict
pub mod Answer
pub mod Faults
pub mod Causes
