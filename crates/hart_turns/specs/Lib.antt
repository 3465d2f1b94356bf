pub mod Firsts
pub mod Lives
pub mod Turns
