mod Holding
mod Telling
mod Noting
