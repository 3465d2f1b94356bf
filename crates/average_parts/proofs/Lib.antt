pub mod Judged
pub mod Reading
pub mod Served
pub mod Lists
pub mod Roles
pub mod Named
pub mod Alike
