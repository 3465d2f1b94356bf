mod Numbers
mod Inverse
mod Worked
