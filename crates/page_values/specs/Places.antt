-- Where values stand in a picture.
use Rattle.std.specs.Prelude.{ℕ, ◌+◌, ◌-◌, ◌*◌, ◌/◌, ◌<◌, ◌≤◌, nat_le, nat_lt, min, Bool, false, Option, Some, None, ℤ, pos, negsuc, nat_abs}

-- an upper end of an axis of values
pub record IsTop (top : ℕ) : Type 0 where
  pub some : 0 < top
  pub within : top ≤ 10000

-- how far from the axis of speedups a size stands; the upper end is 400 from it
abbrev pub distance : ℕ → ℕ → ℕ
distance top n = min n 10000 * 400 / top

-- the place of a value from above; what is too low stands at the lower end
abbrev pub height : ℕ → ℤ → ℕ
height top (pos n) = 440 - min (distance top n) 400
height top (negsuc n) = 440 + min (distance top (n + 1)) 100

-- the value is above the upper end, or below the lower end, which is a quarter of that
abbrev pub is_cut : ℕ → ℤ → Bool
is_cut top (pos n) = nat_lt top n
is_cut top (negsuc n) = nat_lt (top / 4) (n + 1)

-- the place of a speedup from the left
abbrev pub place_across : ℕ → ℕ
place_across speedup = 200 + speedup * 57 / 5

-- a value whose size is at least a hundredth of the axis
abbrev pub reaches : ℕ → Option ℤ → Bool
reaches top None = false
reaches top (Some v) = nat_le (top / 100) (nat_abs v)
