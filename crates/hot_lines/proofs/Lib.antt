mod Costs
mod Leaving
mod Ranking
pub mod Usual
mod Visits
