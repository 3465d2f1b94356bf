-- Page numbers, and the areas before an area.
use Rattle.std.proofs.Common.{◌≡◌, ℕ, ◌*◌, refl, arith, nat_lt, inl, inr}
use Rattle.std.proofs.lemmas.Bool.{lt-ltb, le-ltb, cases_lt}

pub low_page : (n : ℕ) → nat_lt n 1 ≡ nat_lt (4096 * n) 0x1000
low_page n =
    elim (cases_lt n 1) [
      | inl low ↦ rw (lt-ltb n 1 low, lt-ltb (4096 * n) 0x1000 (omega arith)) refl
      | inr high ↦ rw (le-ltb n 1 high, le-ltb (4096 * n) 0x1000 (omega arith)) refl
    ]

pub high_page : (n : ℕ) → nat_lt 0x2000000 n ≡ nat_lt 0x2000000000 (4096 * n)
high_page n =
    elim (cases_lt 0x2000000 n) [
      | inl high ↦ rw (lt-ltb 0x2000000 n high, lt-ltb 0x2000000000 (4096 * n) (omega arith)) refl
      | inr low ↦ rw (le-ltb 0x2000000 n low, le-ltb 0x2000000000 (4096 * n) (omega arith)) refl
    ]
