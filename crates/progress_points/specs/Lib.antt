pub mod Points
pub mod View
