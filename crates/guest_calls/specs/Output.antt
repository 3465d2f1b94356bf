-- What a guest has written.
use Rattle.std.specs.Prelude.{ℕ, ◌++◌, List, take}

pub record Written : Type 0 where
  pub bytes : List ℕ
  -- no more bytes than these are kept
  pub limit : ℕ

-- with further bytes, up to the limit
abbrev pub with_bytes_written : List ℕ → Written → Written
with_bytes_written bytes w = record w { bytes = take w.limit (w.bytes ++ bytes) }
