mod Words
pub mod Laws
pub mod Split
pub mod Signs
pub mod Codes
pub mod Reading
pub mod Found
pub mod Exact
pub mod Groups
