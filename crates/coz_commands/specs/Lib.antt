pub mod Profiled
pub mod Trial
pub mod CriticalPath
pub mod Latencies
pub mod Measured
pub mod Verdict
pub mod Answer
pub mod Kinds
