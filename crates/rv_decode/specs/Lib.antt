pub mod Fields
pub mod Table
pub mod Instructions
pub mod Forms
