-- Steps of a curve of several profiles of one program's lines: means over the seeds, against the
-- base of all profiles.
use Rattle.std.specs.Prelude.{ℕ, ◌^◌, ◌<◌, Bool, not, ◌||◌, ◌==◌, List, [], ◌∷◌, map, take, drop, find, slice_get, Option, Some, None, is_some, is_none, option_map, IfSome, ℤ, pos, if◌then◌else◌, All}
use Rattle.std.specs.Global.{Vec}
use Rattle.std.specs.List.{list_all, sum_by, filter, enumerate_from}
use Rattle.coz_types.specs.declared.record.Summary.{Summary}
use Rattle.profile_book.specs.declared.profile.Profile.{Profile}
use Rattle.causal_curves.specs.Curves.{net, visits}
use Rattle.causal_curves.specs.Measured.{IsMeasured}
use Rattle.average_values.specs.declared.pace.Pace.{Pace}
use Rattle.average_values.specs.Values.{value, total, mean, variance, error_from, Spread, IsValue}
use Rattle.average_steps.specs.declared.average_step.AverageStep.{AverageStep}

-- ---- the base

-- the net time of a run, and its visits
abbrev pub pace_of : ℕ → Summary → Pace
pace_of point s = record { net = net s; visits = visits point s }

abbrev pub pace_or : ℕ → Option Summary → Pace
pace_or point None = record { net = 0; visits = 0 }
pace_or point (Some s) = pace_of point s

-- of the run at speedup 0
abbrev pub first_pace : ℕ → Profile → Pace
first_pace point p = pace_or point (find (λ (s : Summary). s.speedup == 0) p.summaries)

-- the runs at speedup 0 of all profiles, summed
abbrev pub base_pace : ℕ → List Profile → Pace
base_pace point profiles = record {
  net = sum_by (λ (p : Profile). (first_pace point p).net) profiles;
  visits = sum_by (λ (p : Profile). (first_pace point p).visits) profiles;
}

-- the value of each of them against their sum
abbrev pub base_values : ℕ → List Profile → List (Option ℤ)
base_values point profiles =
    map (λ (p : Profile). value (base_pace point profiles) (first_pace point p)) profiles

-- ---- values that may be absent

abbrev pub or_zero : Option ℤ → ℤ
or_zero None = pos 0
or_zero (Some v) = v

-- the values, if all are present
abbrev pub present : List (Option ℤ) → Option (List ℤ)
present values = if list_all is_some values then Some (map or_zero values) else None

abbrev pub items_of : Vec ℤ → List ℤ
items_of v = v.items

-- ---- errors

abbrev pub variance_in : ℕ → Option (List ℤ) → Option Spread
variance_in parts None = None
variance_in parts (Some values) = variance parts values

abbrev pub base_variance : ℕ → List Profile → Option Spread
base_variance point profiles = variance_in 1 (present (base_values point profiles))

abbrev pub error_between : Option Spread → Option Spread → Option ℕ
error_between (Some a) (Some b) = Some (error_from a b)
error_between _ _ = None

-- ---- steps

-- the value of a run, which is 0 at speedup 0; absent without a run
abbrev pub run_value : Pace → ℕ → Option Summary → Option ℤ
run_value base point None = None
run_value base point (Some s) = if s.speedup == 0 then Some (pos 0) else value base (pace_of point s)

-- the values of the seeds' runs at a position
abbrev pub values_at : Pace → ℕ → List Profile → ℕ → List (Option ℤ)
values_at base point seeds block =
    map (λ (p : Profile). run_value base point (slice_get p.summaries block)) seeds

-- at speedup 0 nothing varies
abbrev pub step_error : ℕ → Option Spread → Option Spread → Option ℕ
step_error speedup a b = option_map (λ (e : ℕ). if speedup == 0 then 0 else e) (error_between a b)

-- the mean of the seeds' runs at a position, with its error
abbrev pub step_of : Pace → Option Spread → ℕ → List Profile → ℕ → ℕ → AverageStep
step_of base spread point seeds block speedup = record {
  speedup = speedup;
  value = option_map mean (present (values_at base point seeds block));
  error = step_error speedup (variance_in 1 (present (values_at base point seeds block))) spread;
}

-- of a line whose runs begin at a position, and whose first seed has these runs
abbrev pub steps_of : Pace → Option Spread → ℕ → List Profile → ℕ → List Summary → List AverageStep
steps_of base spread point seeds start runs =
    map (λ (at : ℕ × Summary). step_of base spread point seeds at.0 at.1.speedup) (enumerate_from start runs)

-- ---- areas

abbrev pub faster_values : List AverageStep → List (Option ℤ)
faster_values steps =
    map (λ (s : AverageStep). s.value) (filter (λ (s : AverageStep). not (s.speedup == 0)) steps)

-- the mean, if there is a value
abbrev pub mean_in : Option (List ℤ) → Option ℤ
mean_in None = None
mean_in (Some []) = None
mean_in (Some (v ∷ values)) = Some (mean (v ∷ values))

-- the mean of the values at speedups over 0
abbrev pub area_of : List AverageStep → Option ℤ
area_of steps = mean_in (present (faster_values steps))

-- the values of one seed's runs at speedups over 0
abbrev pub seed_values : Pace → ℕ → List Summary → List (Option ℤ)
seed_values base point runs =
    map (λ (s : Summary). value base (pace_of point s)) (filter (λ (s : Summary). not (s.speedup == 0)) runs)

abbrev pub seed_total : Pace → ℕ → List Summary → Option ℤ
seed_total base point runs = option_map total (present (seed_values base point runs))

-- of a line with this number of runs from a position on
abbrev pub totals_of : Pace → ℕ → List Profile → ℕ → ℕ → List (Option ℤ)
totals_of base point seeds start count =
    map (λ (p : Profile). seed_total base point (take count (drop start p.summaries))) seeds

-- The mean of a seed over the speedups is its sum over their number. Absent without an area.
abbrev pub area_error : Option ℤ → ℕ → List (Option ℤ) → Option Spread → Option ℕ
area_error area parts totals spread =
    if is_none area || parts == 0 then None
    else error_between (variance_in parts (present totals)) spread

abbrev pub is_faster : AverageStep → Bool
is_faster s = not (s.speedup == 0)

-- ---- ranges

abbrev pub AreMeasured : ℕ → List Profile → Type 0
AreMeasured point profiles = All (λ (p : Profile). All (IsMeasured point) p.summaries) profiles

-- small values and errors
pub record IsStep (s : AverageStep) : Type 0 where
  pub value : IfSome s.value IsValue
  pub error : IfSome s.error (λ e. e < 2 ^ 126)
