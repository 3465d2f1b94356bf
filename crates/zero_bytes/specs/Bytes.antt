-- What a list of bytes is after a write to a part of it.
use Rattle.std.specs.Prelude.{ℕ, zero, suc, set, ◌≡◌, ◌+◌, ◌/◌, ◌%◌, ◌≤◌, ◌<◌, ◌⊎◌, List, length, get_or, take, drop, ◌++◌}
use Rattle.zero_bytes.specs.declared.TheConstants.{PAGE}

-- the numbers of bytes that a number is read from or written to
abbrev pub IsWidth : ℕ → Type 0
IsWidth n = (n ≡ 1) ⊎ (n ≡ 2) ⊎ (n ≡ 4) ⊎ (n ≡ 8)

-- a number written in n bytes, the lowest first
abbrev pub bytes_with_number : ℕ → ℕ → ℕ → List ℕ → List ℕ
bytes_with_number p zero v bs = bs
bytes_with_number p (suc n) v bs = bytes_with_number (p + 1) n (v / 256) (set bs p (v % 256))

-- other bytes from a place on
abbrev pub bytes_with_put : ℕ → List ℕ → List ℕ → List ℕ
bytes_with_put p ws bs = take p bs ++ ws ++ drop (p + length ws) bs

-- zeros in the bytes of a page from a place on, and all else the same
pub record IsZeroedFrom (start : ℕ) (old new : List ℕ) : Type 0 where
  pub same_length : length new ≡ length old
  pub zeros : (j : ℕ) → start ≤ j → j < start + PAGE → get_or new j 0 ≡ 0
  pub others : (j : ℕ) → (start ≤ j → j < start + PAGE → ⊥) → get_or new j 0 ≡ get_or old j 0

-- the bytes of a page from a place on are those of another list, and all else is the same
pub record IsCopiedAt (start : ℕ) (old from new : List ℕ) : Type 0 where
  pub same_length : length new ≡ length old
  pub here : (j : ℕ) → start ≤ j → j < start + PAGE → get_or new j 0 ≡ get_or from j 0
  pub others : (j : ℕ) → (start ≤ j → j < start + PAGE → ⊥) → get_or new j 0 ≡ get_or old j 0
