-- The curves of a profile, and their ranks.
use Rattle.std.specs.Prelude.{ℕ, ◌*◌, ◌-◌, Bool, ◌||◌, ◌==◌, true, false, List, [], ◌∷◌, map, find, flat_map, get_or, Option, Some, None, ℤ, pos, ◌-ℤ◌, ◌*ℤ◌, if◌then◌else◌}
use Rattle.std.specs.Int.{int_div_euclid}
use Rattle.std.specs.List.{enumerate_from}
use Rattle.std.specs.List.Sorted.{IsPermutation, IsSortedBy, IsStableBy}
use Rattle.std.specs.Ordering.{is_lt, nat_cmp, int_cmp, ordering_then}
use Rattle.std.specs.Option.{option_cmp}
use Rattle.coz_types.specs.Labels.{Text}
use Rattle.coz_types.specs.declared.record.Summary.{Summary}
use Rattle.profile_book.specs.declared.profile.Profile.{Profile}
use Rattle.profile_labels.specs.Groups.{groups}
use Rattle.profile_labels.specs.Sorted.{sorted_by}
use Rattle.causal_curves.specs.declared.curve.Curve.{Curve}
use Rattle.causal_curves.specs.declared.curve.CurveStep.{CurveStep}

-- ---- values

-- time less delay
abbrev pub net : Summary → ℕ
net s = s.outcome.time - s.outcome.delay

-- how often the point was visited
abbrev pub visits : ℕ → Summary → ℕ
visits point s = get_or s.counts point 0

-- (whole - part) / whole in ten thousandths, rounded down
abbrev pub share : ℕ → ℕ → ℤ
share whole part = int_div_euclid ((pos whole -ℤ pos part) *ℤ pos 10000) (pos whole)

-- how much less net time a visit takes than in the base
abbrev pub value_over : ℕ → Summary → Summary → Option ℤ
value_over point base s =
    if visits point base == 0 || (visits point s == 0 || net base == 0) then None
    else Some (share (net base * visits point s) (net s * visits point base))

-- absent without a base
abbrev pub value : ℕ → Option Summary → Summary → Option ℤ
value point None s = None
value point (Some base) s = value_over point base s

-- ---- curves

-- the summary at speedup 0
abbrev pub base_of : List Summary → Option Summary
base_of group = find (λ (s : Summary). s.speedup == 0) group

abbrev pub step_of : ℕ → Option Summary → Summary → CurveStep
step_of point base s = record { speedup = s.speedup; value = value point base s }

abbrev pub label_in : List Summary → Text
label_in [] = []
label_in (s ∷ group) = s.selected

-- the greater of two values, if there is one
abbrev pub greater : Option ℤ → Option ℤ → Option ℤ
greater a b = if is_lt (option_cmp int_cmp a b) then b else a

-- the greatest value at a speedup over 0
unfoldable pub gain_of : List CurveStep → Option ℤ
gain_of [] = None
gain_of (step ∷ steps) =
    if step.speedup == 0 then gain_of steps else greater (gain_of steps) step.value

-- the curve of a point over the summaries of one line
abbrev pub curve_of : ℕ → List Summary → Curve
curve_of point group = record {
  point = point;
  selected = label_in group;
  gain = gain_of (map (step_of point (base_of group)) group);
  steps = map (step_of point (base_of group)) group;
}

abbrev pub curves_at : List Summary → ℕ → List Curve
curves_at summaries point = map (curve_of point) (groups summaries)

-- the curves of each point, in the profile's order
unfoldable pub curves_of : Profile → List Curve
curves_of p =
    flat_map (λ (place : ℕ × Text). curves_at p.summaries place.0) (enumerate_from 0 p.points)

-- ---- ranks

-- by point, then by falling gain; an absent one is the least
abbrev pub ranks_before : Curve → Curve → Bool
ranks_before a b =
    is_lt (ordering_then (nat_cmp a.point b.point) (option_cmp int_cmp b.gain a.gain))

-- the curves by rank, those of one rank in the order that they had
pub record IsRanking (curves ranked_curves : List Curve) : Type 0 where
  pub all : IsPermutation curves ranked_curves
  pub sorted : IsSortedBy ranks_before ranked_curves
  pub stable : IsStableBy ranks_before curves ranked_curves

-- the curves by rank: the one list that is their ranking
abbrev pub ranked_curves : List Curve → List Curve
ranked_curves curves = sorted_by ranks_before curves
