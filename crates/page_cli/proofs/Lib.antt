mod Harms
pub mod Judged
mod Newlines
mod OneLine
pub mod Pages
pub mod Ranking
pub mod Reading
pub mod Served
mod Settled
