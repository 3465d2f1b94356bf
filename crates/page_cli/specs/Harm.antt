-- The lines that hurt.
use Rattle.std.specs.Prelude.{Bool, true, false, List, Option, Some, ℤ, negsuc}
use Rattle.std.specs.List.{filter}
use Rattle.std.specs.Ordering.{is_lt, nat_cmp, int_cmp, bool_cmp, ordering_then}
use Rattle.std.specs.Option.{option_cmp}
use Rattle.profile_labels.specs.Sorted.{sorted_by}
use Rattle.causal_curves.specs.declared.curve.Curve.{Curve}
use Rattle.page_values.specs.Harm.{worst_of}
use Rattle.page_values.specs.Ranks.{is_folded}

abbrev pub is_below_zero : Option ℤ → Bool
is_below_zero (Some (negsuc n)) = true
is_below_zero _ = false

-- at some speedup a visit takes more time than at 0
abbrev pub hurts : Curve → Bool
hurts c = is_below_zero (worst_of c.steps)

-- by point, the folded lines last, then by rising least value
abbrev pub harms_before : Curve → Curve → Bool
harms_before a b =
    is_lt (ordering_then
    (ordering_then (nat_cmp a.point b.point) (bool_cmp (is_folded a) (is_folded b)))
    (option_cmp int_cmp (worst_of a.steps) (worst_of b.steps)))

-- the curves of the lines that hurt, the most harmful first; those that tie as they stood
abbrev pub harmful_curves : List Curve → List Curve
harmful_curves curves = sorted_by harms_before (filter hurts curves)
