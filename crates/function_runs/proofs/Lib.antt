mod Memory
mod Executed
mod Spaces
mod Calls
mod First
mod Selected
mod Alike
