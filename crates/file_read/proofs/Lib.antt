pub mod ReadBytes
