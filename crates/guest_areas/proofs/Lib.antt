pub mod MarkLemmas
pub mod FreeRuns
pub mod Lookups
pub mod Calls
pub mod KnownPages
pub mod Bits
pub mod Changes
pub mod Shares
mod Examples
