-- The least values of curves.
use Rattle.std.specs.Prelude.{◌&&◌, ◌||◌, ◌==◌, List, [], ◌∷◌, Option, None, is_none, is_some, ℤ, if◌then◌else◌}
use Rattle.std.specs.Ordering.{is_lt, int_cmp}
use Rattle.std.specs.Option.{option_cmp}
use Rattle.causal_curves.specs.declared.curve.CurveStep.{CurveStep}

-- the lesser of two values, or the one that is there
abbrev pub lesser : Option ℤ → Option ℤ → Option ℤ
lesser a b =
    if is_none a || (is_some b && is_lt (option_cmp int_cmp b a)) then b else a

-- the least value at a speedup over 0
unfoldable pub worst_of : List CurveStep → Option ℤ
worst_of [] = None
worst_of (step ∷ steps) =
    if step.speedup == 0 then worst_of steps else lesser (worst_of steps) step.value
