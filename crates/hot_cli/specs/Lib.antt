pub mod Words
pub mod Grammar
pub mod Verdict
pub mod Answer
pub mod Program
