pub mod Mended
pub mod Walks
