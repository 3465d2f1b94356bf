pub mod Verdict
pub mod Answer
pub mod Program
pub mod Headline
