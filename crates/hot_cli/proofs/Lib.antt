mod Budgets
mod Judged
mod Printing
mod Judging
mod Slots
mod Said
mod Law
mod Examples
