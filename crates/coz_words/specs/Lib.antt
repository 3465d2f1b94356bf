pub mod Said
pub mod Request
pub mod Slow
pub mod Parse
pub mod Answers
