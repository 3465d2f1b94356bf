-- The floor of a square root.
use Rattle.std.specs.Prelude.{ℕ, zero, suc, ◌+◌, ◌*◌, nat_le, if◌then◌else◌}

-- with the next number it grows by one where that is a square
unfoldable pub root : ℕ → ℕ
root zero = 0
root (suc n) = if nat_le ((root n + 1) * (root n + 1)) (n + 1) then root n + 1 else root n
