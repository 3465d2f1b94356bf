-- The shape of a curve: the mean of its values, how far it goes up and down, and where it stays flat.
use Rattle.std.specs.Prelude.{ℕ, ◌+◌, ◌-◌, ◌*◌, ◌/◌, ◌==◌, Bool, ◌&&◌, nat_le, nat_lt, min, max, List, [], ◌∷◌, length, sum_by, Option, Some, None, is_some, ℤ, pos, negsuc, ◌-ℤ◌, if◌then◌else◌}
use Rattle.std.specs.Int.{abs_diff}
use Rattle.std.specs.List.{filter, list_all}
use Rattle.std.specs.Option.{option_or}
use Rattle.causal_curves.specs.declared.curve.Curve.{Curve}
use Rattle.causal_curves.specs.declared.curve.CurveStep.{CurveStep}
use Rattle.page_values.specs.declared.shapes.TheConstants.{MAX_VALUE, MIN_SPEEDUPS, MAX_SMOOTH, MAX_DROP}
use Rattle.page_values.specs.Harm.{worst_of}

-- ---- levels

-- How far a value is above -1,000,000 per cent, in hundredths of a per cent. A value beyond
-- 1,000,000 per cent, on either side, counts as that.
abbrev pub level : ℤ → ℕ
level (pos n) = MAX_VALUE + min n MAX_VALUE
level (negsuc n) = MAX_VALUE - min (n + 1) MAX_VALUE

-- an absent value counts as 0
abbrev pub level_of : Option ℤ → ℕ
level_of None = MAX_VALUE
level_of (Some v) = level v

-- how far two values are apart; absent ones are not
abbrev pub gap : Option ℤ → Option ℤ → ℕ
gap (Some a) (Some b) = abs_diff (level a) (level b)
gap _ _ = 0

-- ---- the mean

-- a step at a speedup over 0 that has a value
abbrev pub counts : CurveStep → Bool
counts s = nat_lt 0 s.speedup && is_some s.value

abbrev pub step_level : CurveStep → ℕ
step_level s = level_of s.value

-- the mean of levels with this sum, as a value, rounded down
abbrev pub mean_over : ℕ → ℕ → Option ℤ
mean_over total count =
    if count == 0 then None else Some (pos (total / count) -ℤ pos MAX_VALUE)

-- the mean of the values at speedups over 0; absent if there are none
abbrev pub mean_of : List CurveStep → Option ℤ
mean_of steps = mean_over (sum_by step_level (filter counts steps)) (length (filter counts steps))

-- ---- up and down

-- the first value of steps that have one
unfoldable pub first_value : List CurveStep → Option ℤ
first_value [] = None
first_value (s ∷ rest) = option_or s.value (first_value rest)

-- the total variation: how far the curve goes up and down in all
unfoldable pub variation_of : List CurveStep → ℕ
variation_of [] = 0
variation_of (s ∷ rest) = gap s.value (first_value rest) + variation_of rest

-- how far the greatest and the least value are apart, of which one at speedup 0 is 0
abbrev pub range_of : Curve → ℕ
range_of c = max MAX_VALUE (level_of c.gain) - min MAX_VALUE (level_of (worst_of c.steps))

-- The curve goes up and down: it has ten or more speedups, a range over one per cent, and a total
-- variation over one and a half times its range.
abbrev pub is_rough : Curve → Bool
is_rough c =
    nat_le MIN_SPEEDUPS (length c.steps)
    && (nat_lt MAX_SMOOTH (range_of c) && nat_lt (3 * range_of c) (2 * variation_of c.steps))

-- ---- flat

-- the value is above 0, and at most 0.1 per cent below this gain
abbrev pub keeps : ℕ → CurveStep → Bool
keeps gain s =
    nat_lt MAX_VALUE (step_level s) && nat_le gain (step_level s - MAX_VALUE + MAX_DROP)

-- the least speedup, other than the greatest, from which on each value keeps this gain
unfoldable pub flat_above : ℕ → List CurveStep → Option ℕ
flat_above gain [] = None
flat_above gain (s ∷ rest) =
    if nat_lt 0 (length rest) && list_all (keeps gain) (s ∷ rest) then Some s.speedup
    else flat_above gain rest

-- the speedup from which on the curve stays at its gain
abbrev pub flat_from : Curve → Option ℕ
flat_from c = flat_above (level_of c.gain - MAX_VALUE) c.steps
