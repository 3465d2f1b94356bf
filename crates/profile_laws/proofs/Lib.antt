pub mod Found
pub mod Asked
pub mod Grouped
pub mod Curves
pub mod Zero
pub mod Unstarted
pub mod Plotted
pub mod Shards
