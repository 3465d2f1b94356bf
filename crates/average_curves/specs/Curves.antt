-- The averages of profiles of one program's lines: curves, and their ranks.
use Rattle.std.specs.Prelude.{◌≡◌, ℕ, ◌+◌, ◌-◌, ◌<◌, ◌≤◌, Bool, ◌==◌, true, false, List, [], ◌∷◌, length, take, flat_map, slice_get, Option, Some, None, IfSome, ℤ, if◌then◌else◌, All}
use Rattle.std.specs.List.{sum_by, filter, enumerate_from}
use Rattle.std.specs.List.Sorted.{IsPermutation, IsSortedBy, IsStableBy}
use Rattle.std.specs.Ordering.{is_lt, nat_cmp, int_cmp, ordering_then}
use Rattle.std.specs.Option.{option_cmp}
use Rattle.coz_types.specs.Labels.{Text}
use Rattle.coz_types.specs.declared.TheConstants.{MAX_NUMBER}
use Rattle.coz_types.specs.declared.record.Summary.{Summary}
use Rattle.profile_book.specs.Profile.{IsProfile}
use Rattle.profile_book.specs.declared.profile.Profile.{Profile}
use Rattle.profile_labels.specs.Groups.{groups}
use Rattle.profile_labels.specs.Sorted.{sorted_by}
use Rattle.causal_curves.specs.Curves.{label_in}
use Rattle.causal_curves.specs.Measured.{IsMeasured}
use Rattle.average_values.specs.declared.pace.Pace.{Pace}
use Rattle.average_values.specs.Values.{cost, differ, Spread, IsBase, most_parts, most_runs}
use Rattle.average_steps.specs.declared.average_step.AverageStep.{AverageStep}
use Rattle.average_steps.specs.declared.base.Base.{Base}
use Rattle.average_steps.specs.Steps.{first_pace, base_pace, base_variance, run_value, steps_of, area_of, area_error, totals_of, is_faster, AreMeasured}
use Rattle.average_curves.specs.declared.averaged.Averaged.{Averaged}
use Rattle.average_curves.specs.declared.averages.Averages.{Averages}
use Rattle.average_curves.specs.declared.curve.AverageCurve.{AverageCurve}
use Rattle.average_curves.specs.declared.curve.Exactness.{Exactness}
use Rattle.average_curves.specs.declared.curve.Exactness.TheVariants.{Absent, Smooth, Rough}

-- ---- the profiles

abbrev pub seeds_in : Averaged → List Profile
seeds_in a = take a.seeds a.profiles

-- those of the first profile
abbrev pub points_of : List Profile → List Text
points_of [] = []
points_of (p ∷ profiles) = p.points

abbrev pub runs_of : List Profile → List Summary
runs_of [] = []
runs_of (p ∷ profiles) = p.summaries

-- ---- what a line costs

-- the delay of the run at a position
abbrev pub delay_in : Option Summary → ℕ
delay_in None = 0
delay_in (Some s) = s.outcome.delay

abbrev pub delay_at : ℕ → Profile → ℕ
delay_at block p = delay_in (slice_get p.summaries block)

-- of all seeds, summed
abbrev pub delays_at : ℕ → List Profile → ℕ
delays_at block seeds = sum_by (delay_at block) seeds

-- by the runs of a speedup at a position; absent at speedup 0
abbrev pub cost_at : Pace → ℕ → List Profile → ℕ → ℕ → Option ℕ
cost_at base bases seeds block speedup =
    if speedup == 0 then None
    else cost base bases (delays_at block seeds) (length seeds) speedup

abbrev pub cost_by : Pace → ℕ → List Profile → ℕ → Option Summary → Option ℕ
cost_by base bases seeds block None = None
cost_by base bases seeds block (Some s) = cost_at base bases seeds block s.speedup

-- by the last of a line's runs, whose speedup is the greatest
abbrev pub cost_of : Pace → ℕ → List Profile → ℕ → List Summary → Option ℕ
cost_of base bases seeds start runs =
    cost_by base bases seeds (start + (length runs - 1)) (slice_get runs (length runs - 1))

-- ---- the exact schedule

abbrev pub differ_if : Option ℤ → Option ℤ → Option ℕ → Bool
differ_if (Some exact) (Some value) error = differ exact value error
differ_if _ _ error = false

-- the value of the exact run at a position differs from that of the step
abbrev pub is_rough_at : Pace → ℕ → Profile → ℕ → AverageStep → Bool
is_rough_at base point exact block step =
    differ_if (run_value base point (slice_get exact.summaries block)) step.value step.error

-- at one of the steps of a line whose runs begin at a position
abbrev pub is_rough : Pace → ℕ → Profile → ℕ → List AverageStep → Bool
is_rough base point exact start [] = false
is_rough base point exact start (step ∷ steps) =
    if is_rough_at base point exact start step then true
    else is_rough base point exact (start + 1) steps

-- by its values against its own base
abbrev pub exactness_of : Option Profile → ℕ → ℕ → List AverageStep → Exactness
exactness_of None point start steps = Absent
exactness_of (Some exact) point start steps =
    if is_rough (first_pace point exact) point exact start steps then Rough else Smooth

-- ---- curves

-- of a line whose runs begin at a position, and whose first seed has these runs
abbrev pub curve_with : Pace → Option Spread → Averaged → ℕ → ℕ → List Summary → List AverageStep → AverageCurve
curve_with base spread a point start runs steps = record {
  point = point;
  selected = label_in runs;
  area = area_of steps;
  error = area_error (area_of steps) (length (filter is_faster steps))
      (totals_of base point (seeds_in a) start (length steps)) spread;
  cost = cost_of base (length a.profiles) (seeds_in a) start runs;
  exact = exactness_of a.exact point start steps;
  steps = steps;
}

abbrev pub curve_on : Pace → Option Spread → Averaged → ℕ → ℕ → List Summary → AverageCurve
curve_on base spread a point start runs =
    curve_with base spread a point start runs
    (steps_of base spread point (seeds_in a) start runs)

-- against the base of all profiles
abbrev pub curve_of : Averaged → ℕ → ℕ → List Summary → AverageCurve
curve_of a point start runs =
    curve_on (base_pace point a.profiles) (base_variance point a.profiles) a point start runs

-- of the lines with these runs, the first of which is at a position
abbrev pub curves_from : Averaged → ℕ → ℕ → List (List Summary) → List AverageCurve
curves_from a point start [] = []
curves_from a point start (runs ∷ lines) =
    curve_of a point start runs ∷ curves_from a point (start + length runs) lines

-- of the lines of these runs at a point
abbrev pub curves_at : Averaged → List Summary → ℕ → List AverageCurve
curves_at a runs point = curves_from a point 0 (groups runs)

-- of the lines of the first seed at each of its points
unfoldable pub curves_in : Averaged → List Profile → List AverageCurve
curves_in a [] = []
curves_in a (first ∷ seeds) =
    flat_map (λ (place : ℕ × Text). curves_at a first.summaries place.0)
    (enumerate_from 0 first.points)

abbrev pub curves_of : Averaged → List AverageCurve
curves_of a = curves_in a (seeds_in a)

-- ---- ranks

-- by point, then by falling area; an absent one is the least
abbrev pub ranks_before : AverageCurve → AverageCurve → Bool
ranks_before a b =
    is_lt (ordering_then (nat_cmp a.point b.point) (option_cmp int_cmp b.area a.area))

-- the curves by rank, those of one rank in the order that they had
pub record IsRanking (curves ranked : List AverageCurve) : Type 0 where
  pub all : IsPermutation curves ranked
  pub sorted : IsSortedBy ranks_before ranked
  pub stable : IsStableBy ranks_before curves ranked

-- the curves by rank: the one list that is their ranking
abbrev pub ranked_curves : List AverageCurve → List AverageCurve
ranked_curves curves = sorted_by ranks_before curves

abbrev pub averages_of : Averaged → Averages
averages_of a = record {
  seeds = a.seeds;
  base = length a.profiles;
  points = length (points_of a.profiles);
  curves = ranked_curves (curves_of a);
}

-- ---- ranges

abbrev pub HasSmallDelay : Summary → Type 0
HasSmallDelay s = s.outcome.delay ≤ MAX_NUMBER

-- a line's runs: no more than its speedups
abbrev pub IsShort : List Summary → Type 0
IsShort runs = length runs ≤ most_parts

-- At most 1,000 profiles, all within the ranges and orders of profiles and with as many points.
-- Those of the seeds have as many runs.
pub record IsAveraged (a : Averaged) : Type 0 where
  pub few : length a.profiles ≤ most_runs
  pub seeds : a.seeds ≤ length a.profiles
  pub right : All IsProfile a.profiles
  pub exact : IfSome a.exact IsProfile
  pub points : All (λ (p : Profile). length p.points ≡ length (points_of a.profiles)) a.profiles
  pub exact_points : 0 < length a.profiles
      → IfSome a.exact (λ (p : Profile). length p.points ≡ length (points_of a.profiles))
  pub runs : All (λ (p : Profile). length p.summaries ≡ length (runs_of (seeds_in a))) (seeds_in a)

-- the same of one point: each run has a count of it
pub record IsSoundAt (point : ℕ) (a : Averaged) : Type 0 where
  pub few : length a.profiles ≤ most_runs
  pub seeds : a.seeds ≤ length a.profiles
  pub measured : AreMeasured point a.profiles
  pub seeds_measured : AreMeasured point (seeds_in a)
  pub exact : IfSome a.exact (λ (p : Profile). All (IsMeasured point) p.summaries)
  pub runs : All (λ (p : Profile). length p.summaries ≡ length (runs_of (seeds_in a))) (seeds_in a)

-- the base of all profiles
pub record IsBaseOf (a : Averaged) (point : ℕ) (base : Base) : Type 0 where
  pub pace : base.pace ≡ base_pace point a.profiles
  pub variance : base.variance ≡ base_variance point a.profiles
  pub small : IsBase base.pace
