mod Claiming
mod Found
mod Heads
mod Marking
mod Nodes
mod Ranks
mod Spans
mod Spelling
