mod Cuts
mod Held
mod Ranges
mod Said
mod Profiles
mod Law
mod Examples
