pub mod Skips
mod Tables
mod Numbers
