-- The text of averages.
use Rattle.std.specs.Prelude.{ℕ, ◌++◌, flat_map, codes, decimal, Option, Some, None}
use Rattle.coz_types.specs.Labels.{Text}
use Rattle.profile_book.specs.Profile.{field, number_field}
use Rattle.causal_curves.specs.Texts.{value_text}
use Rattle.average_steps.specs.declared.average_step.AverageStep.{AverageStep}
use Rattle.average_curves.specs.declared.averages.Averages.{Averages}
use Rattle.average_curves.specs.declared.curve.AverageCurve.{AverageCurve}
use Rattle.average_curves.specs.declared.curve.Exactness.{Exactness}
use Rattle.average_curves.specs.declared.curve.Exactness.TheVariants.{Absent, Smooth, Rough}

abbrev pub number_text : Option ℕ → Text
number_text None = codes "absent"
number_text (Some n) = decimal n

abbrev pub exact_text : Exactness → Text
exact_text Absent = codes "absent"
exact_text Smooth = codes "smooth"
exact_text Rough = codes "rough"

abbrev pub step_text : AverageStep → Text
step_text s =
    codes "step" ++ number_field (codes "speedup") s.speedup
    ++ field (codes "value") (value_text s.value)
    ++ field (codes "error") (number_text s.error) ++ codes "\n"

abbrev pub curve_text : AverageCurve → Text
curve_text c =
    codes "curve" ++ number_field (codes "point") c.point ++ field (codes "selected") c.selected
    ++ field (codes "area") (value_text c.area) ++ field (codes "error") (number_text c.error)
    ++ field (codes "cost") (number_text c.cost) ++ field (codes "exact") (exact_text c.exact)
    ++ codes "\n" ++ flat_map step_text c.steps

-- how many profiles the averages are of
abbrev pub head_text : Averages → Text
head_text a =
    codes "average" ++ number_field (codes "seeds") a.seeds
    ++ number_field (codes "base") a.base ++ number_field (codes "points") a.points ++ codes "\n"

abbrev pub averages_text : Averages → Text
averages_text a = head_text a ++ flat_map curve_text a.curves
