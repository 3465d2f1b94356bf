pub mod Profiling
pub mod Judged
pub mod Paths
pub mod Accounts
pub mod Budgets
pub mod RunEnds
pub mod Labels
pub mod LatencySteps
pub mod Plotted
mod Examples
pub mod PointLine
pub mod Trials
mod Numbers
