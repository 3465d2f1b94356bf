-- The registers' numbers.
use Rattle.std.specs.Prelude.{ℕ}
use Rattle.asm_tokens.specs.declared.register.Register.{Register}
use Rattle.asm_tokens.specs.declared.register.Register.TheVariants.{X0, X1, X2, X3, X4, X5, X6, X7, X8, X9, X10, X11, X12, X13, X14, X15, X16, X17, X18, X19, X20, X21, X22, X23, X24, X25, X26, X27, X28, X29, X30, X31}

abbrev pub number_of : Register → ℕ
number_of X0 = 0
number_of X1 = 1
number_of X2 = 2
number_of X3 = 3
number_of X4 = 4
number_of X5 = 5
number_of X6 = 6
number_of X7 = 7
number_of X8 = 8
number_of X9 = 9
number_of X10 = 10
number_of X11 = 11
number_of X12 = 12
number_of X13 = 13
number_of X14 = 14
number_of X15 = 15
number_of X16 = 16
number_of X17 = 17
number_of X18 = 18
number_of X19 = 19
number_of X20 = 20
number_of X21 = 21
number_of X22 = 22
number_of X23 = 23
number_of X24 = 24
number_of X25 = 25
number_of X26 = 26
number_of X27 = 27
number_of X28 = 28
number_of X29 = 29
number_of X30 = 30
number_of X31 = 31
