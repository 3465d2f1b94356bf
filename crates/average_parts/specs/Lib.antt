pub mod Words
pub mod Likeness
pub mod Verdict
pub mod Answer
pub mod Faults
pub mod Program
