mod Course
mod Passing
mod Starting
mod Walking
mod OnCores
mod Undelayed
