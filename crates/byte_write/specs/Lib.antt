pub mod Numbers
pub mod Programs
pub mod Files
