pub mod NumberLemmas
pub mod SignLemmas
pub mod Examples
pub mod Exact
pub mod Again
