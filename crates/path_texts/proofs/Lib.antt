pub mod PathSegments
pub mod PathShares
pub mod WholeRuns
mod Fours
pub mod Sharing
