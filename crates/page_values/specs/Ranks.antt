-- The order of lines in a table, and which of them it shows.
use Rattle.std.specs.Prelude.{ℕ, ◌-◌, Bool, not, ◌&&◌, nat_lt, min, nat_abs, List, [], ◌∷◌, length, take, drop, Option, Some, None, true, ℤ}
use Rattle.std.specs.List.{filter}
use Rattle.std.specs.Ordering.{is_lt, nat_cmp, int_cmp, bool_cmp, ordering_then}
use Rattle.std.specs.Option.{option_cmp}
use Rattle.profile_labels.specs.Sorted.{sorted_by}
use Rattle.causal_curves.specs.Curves.{greater}
use Rattle.causal_curves.specs.declared.curve.Curve.{Curve}
use Rattle.page_values.specs.declared.ranks.TheConstants.{MIN_SIZE}
use Rattle.page_values.specs.Harm.{worst_of}
use Rattle.page_values.specs.Shapes.{mean_of}

-- ---- lines that are folded

-- the value is absent, or less than 0.2 per cent in size
abbrev pub is_small : Option ℤ → Bool
is_small None = true
is_small (Some v) = nat_lt (nat_abs v) MIN_SIZE

-- at each speedup over 0 the value is small
abbrev pub is_folded : Curve → Bool
is_folded c = is_small c.gain && is_small (worst_of c.steps)

abbrev pub stands : Curve → Bool
stands c = not (is_folded c)

abbrev pub standing : List Curve → ℕ
standing curves = length (filter stands curves)

-- at most this many lines, of curves of which the folded ones are the last
abbrev pub listed : ℕ → List Curve → List Curve
listed most curves = take (min most (standing curves)) curves

-- the folded lines behind these, as far as there is room for them
abbrev pub folded : ℕ → List Curve → List Curve
folded most curves = take (most - standing curves) (drop (standing curves) curves)

-- ---- ranks

-- by point, the folded lines last, then by falling mean; an absent one is the least
abbrev pub means_before : Curve → Curve → Bool
means_before a b =
    is_lt (ordering_then
    (ordering_then (nat_cmp a.point b.point) (bool_cmp (is_folded a) (is_folded b)))
    (option_cmp int_cmp (mean_of b.steps) (mean_of a.steps)))

-- the curves by the mean of their values; those that tie as they stood
abbrev pub by_mean : List Curve → List Curve
by_mean curves = sorted_by means_before curves

-- the greatest gain of curves
unfoldable pub greatest_gain : List Curve → Option ℤ
greatest_gain [] = None
greatest_gain (c ∷ curves) = greater (greatest_gain curves) c.gain
