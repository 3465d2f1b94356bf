mod Budgets
mod After
mod Judging
mod Headline
mod Served
mod Usual
