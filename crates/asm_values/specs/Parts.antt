-- The two parts of a number that one instruction can't hold.
use Rattle.std.specs.Prelude.{ℕ, ℤ, ◌-ℤ◌}
use Rattle.rv_decode.specs.Fields.{part, twos_complement, signed_bits}

-- the lowest 12 bits, as a signed number
abbrev pub lower : ℤ → ℤ
lower n = signed_bits 12 (twos_complement 12 n)

-- the 20 bits above these, of a number of 32 bits, which make up for the sign of the lower part
abbrev pub upper : ℤ → ℕ
upper n = part (twos_complement 32 (n -ℤ lower n)) 12 20
