mod Joined
mod NameTexts
pub mod One
mod SymbolLists
mod Worked
