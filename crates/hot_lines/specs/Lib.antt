pub mod Lines
pub mod HotRun
