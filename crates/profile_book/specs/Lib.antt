pub mod Pieces
pub mod Profile
