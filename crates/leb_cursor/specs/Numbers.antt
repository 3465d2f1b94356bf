-- LEB128 (DWARF 4, section 7.6): seven bits a byte, the lowest seven first. Every byte
-- but the last is 128 or more, and the last is below 128.
use Rattle.std.specs.Prelude.{◌≡◌, ℕ, ◌+◌, ◌*◌, ◌^◌, ◌%◌, ◌<◌, ◌≤◌, List, [], ◌∷◌, length, ℤ, pos, ◌-ℤ◌, nat_lt, if◌then◌else◌}

-- these bytes are those of one number
abbrev pub IsOneNumber : List ℕ → Type 0
IsOneNumber [] = ⊥
IsOneNumber (b ∷ []) = b < 128
IsOneNumber (b ∷ c ∷ bs) = (128 ≤ b) × IsOneNumber (c ∷ bs)

-- what their low seven bits make
abbrev pub low_bits : List ℕ → ℕ
low_bits [] = 0
low_bits (b ∷ bs) = b % 128 + 128 * low_bits bs

-- the number of `bits` bits, in two's complement
abbrev pub signed_number : ℕ → ℕ → ℤ
signed_number bits n = if nat_lt (2 * n) (2 ^ bits) then pos n else pos n -ℤ pos (2 ^ bits)

abbrev pub signed_low_bits : List ℕ → ℤ
signed_low_bits bytes = signed_number (7 * length bytes) (low_bits bytes)

-- the bytes are a spelling of the number, padded or not
abbrev pub SpellsUnsigned : ℕ → List ℕ → Type 0
SpellsUnsigned n bytes = IsOneNumber bytes × (low_bits bytes ≡ n)

abbrev pub SpellsSigned : ℤ → List ℕ → Type 0
SpellsSigned z bytes = IsOneNumber bytes × (signed_low_bits bytes ≡ z)
