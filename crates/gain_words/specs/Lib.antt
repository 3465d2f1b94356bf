pub mod Slots
pub mod Costs
pub mod Words
pub mod Grammar
