pub mod Verdict
pub mod Program
pub mod Headline
