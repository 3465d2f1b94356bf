-- The pairs of lines and speedups that a plan is.
use Rattle.std.specs.Prelude.{◌≡◌, ℕ, ◌≤◌, ◌<◌, List, ◌∷◌, length, map, flat_map, All, Result, Ok, Err}
use Rattle.std.specs.declared.cmp.Ordering.{Ordering}
use Rattle.std.specs.Ordering.{nat_cmp, ordering_then}
use Rattle.std.specs.List.Sorted.{IsStrictlySortedBy}
use Rattle.experiment_plan.specs.declared.experiment.TheConstants.{MAX_PAIRS}
use Rattle.coz_types.specs.declared.LineId.{LineId}
use Rattle.coz_types.specs.declared.TheConstants.{MAX_SPEEDUP}
use Rattle.experiment_plan.specs.declared.experiment.Experiment.{Experiment}
use Rattle.experiment_plan.specs.declared.experiment.PlanError.{PlanError}
use Rattle.experiment_plan.specs.declared.experiment.PlanError.TheVariants.{TooMany, Memory}
use Rattle.experiment_plan.specs.Selected.{ids, rising_numbers}

abbrev pub at_speedup : LineId → ℕ → Experiment
at_speedup line speedup = record { line = line; speedup = speedup }

-- each line at each of these speedups: by line, then by speedup
abbrev pub pairs_of : List LineId → List ℕ → List Experiment
pairs_of lines speedups = flat_map (λ (line : LineId). map (at_speedup line) speedups) lines

-- each line at 0 and at each of these speedups, which rise, each once
abbrev pub planned_pairs : List LineId → List ℕ → List Experiment
planned_pairs lines speedups = pairs_of lines (rising_numbers (0 ∷ speedups))

-- by line, then by speedup
abbrev pub pair_cmp : Experiment → Experiment → Ordering
pair_cmp e f = ordering_then (nat_cmp e.line.0 f.line.0) (nat_cmp e.speedup f.speedup)

-- the pairs of a plan: lines that rise, each at `count` speedups, none above the greatest speedup,
-- and at most 100,000 pairs
pub record ArePlanned (count : ℕ) (pairs : List Experiment) : Type 0 where
  pub lines : List LineId
  pub speedups : List ℕ
  pub rise : IsStrictlySortedBy nat_cmp (ids lines)
  pub all : pairs ≡ pairs_of lines speedups
  pub as_many : count ≡ length speedups
  pub some : 0 < count
  pub slow : All (λ (pair : Experiment). pair.speedup ≤ MAX_SPEEDUP) pairs
  pub few : length pairs ≤ MAX_PAIRS

-- all pairs, or how many they are, which is above 100,000
abbrev pub IsPlan : List LineId → List ℕ → Result (List Experiment) PlanError → Type 0
IsPlan lines speedups (Ok plan) = (plan ≡ planned_pairs lines speedups) × (length plan ≤ MAX_PAIRS)
IsPlan lines speedups (Err (TooMany count)) =
    (count ≡ length (planned_pairs lines speedups)) × (MAX_PAIRS < count)
IsPlan lines speedups (Err Memory) = Unit {0}
