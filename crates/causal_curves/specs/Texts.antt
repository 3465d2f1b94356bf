-- The text of curves.
use Rattle.std.specs.Prelude.{ℕ, ◌/◌, min, [], ◌++◌, flat_map, replicate, codes, Option, Some, None, ℤ, pos, negsuc, nat_abs}
use Rattle.std.specs.Fmt.{signed_decimal}
use Rattle.coz_types.specs.Labels.{Text}
use Rattle.profile_book.specs.Profile.{field, number_field}
use Rattle.causal_curves.specs.declared.writer.TheConstants.{MAX_BAR}
use Rattle.causal_curves.specs.declared.curve.Curve.{Curve}
use Rattle.causal_curves.specs.declared.curve.CurveStep.{CurveStep}

abbrev pub value_text : Option ℤ → Text
value_text None = codes "absent"
value_text (Some v) = signed_decimal v

-- `#`, or `-` below 0
abbrev pub mark : ℤ → ℕ
mark (pos n) = 35
mark (negsuc n) = 45

-- a mark for each whole 250 of the value's size, up to the longest bar
abbrev pub bar : Option ℤ → Text
bar None = []
bar (Some v) = replicate (min (nat_abs v / 250) MAX_BAR) (mark v)

abbrev pub step_text : CurveStep → Text
step_text s =
    codes "step" ++ number_field (codes "speedup") s.speedup
    ++ field (codes "value") (value_text s.value)
    ++ field (codes "bar") (bar s.value) ++ codes "\n"

abbrev pub curve_text : Curve → Text
curve_text c =
    codes "curve" ++ number_field (codes "point") c.point ++ field (codes "selected") c.selected
    ++ field (codes "gain") (value_text c.gain) ++ codes "\n" ++ flat_map step_text c.steps
