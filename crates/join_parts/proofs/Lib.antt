pub mod Judged
pub mod Reading
pub mod Sharded
pub mod Served
pub mod Machines
