mod Lengths
mod Leb
mod Fronts
mod Fields
mod FileParts
pub mod Loading
pub mod LineSection
mod Program
pub mod Written
pub mod WordLines
mod Files
