-- Numbers as bytes: of fixed width, and LEB128 (DWARF 4, section 7.6).
use Rattle.std.specs.Prelude.{ℕ, ◌*◌, ◌+◌, ◌/◌, ◌%◌, ◌^◌, zero, suc, Bool, List, [], ◌∷◌, find, ℤ, unwrap_or, nat_lt}
use Rattle.std.specs.Int.{w16, w32, w64, to_le_bytes}
use Rattle.rv_decode.specs.Fields.{twos_complement, is_signed}

-- ---- of fixed width, the lowest byte first

unfoldable pub half : ℕ → List ℕ
half n = to_le_bytes w16 n

unfoldable pub word : ℕ → List ℕ
word n = to_le_bytes w32 n

unfoldable pub double : ℕ → List ℕ
double n = to_le_bytes w64 n

-- ---- LEB128

-- in `count` bytes, padded
abbrev pub groups : ℕ → ℕ → List ℕ
groups zero n = []
groups (suc zero) n = n % 128 ∷ []
groups (suc (suc k)) n = (n % 128 + 128) ∷ groups (suc k) (n / 128)

-- a number below 2^34, with a sign or without
unfoldable pub leb : ℕ → List ℕ
leb n = groups 5 n

-- the first count of bytes, from 1 to 10, that the test takes
unfoldable pub fewest : (ℕ → Bool) → ℕ
fewest test = unwrap_or (find test (1 ∷ 2 ∷ 3 ∷ 4 ∷ 5 ∷ 6 ∷ 7 ∷ 8 ∷ 9 ∷ 10 ∷ [])) 10

-- as few bytes as hold the number
abbrev pub uleb : ℕ → List ℕ
uleb n = groups (fewest (λ k. nat_lt n (2 ^ (7 * k)))) n

abbrev pub sleb : ℤ → List ℕ
sleb z =
    let count = fewest (λ k. is_signed (7 * k) z) in
    groups count (twos_complement (7 * count) z)
