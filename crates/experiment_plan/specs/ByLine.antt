-- The lines of a plan: its pairs, cut where the line changes.
use Rattle.std.specs.Prelude.{◌≡◌, ◌<◌, Bool, false, ◌==◌, List, [], ◌∷◌, length, All, if◌then◌else◌}
use Rattle.std.specs.List.{flat_map, onto_first}
use Rattle.coz_types.specs.declared.LineId.{LineId}
use Rattle.experiment_plan.specs.declared.experiment.Experiment.{Experiment}

-- whether the next of these pairs, if there is one, has the line of this one
abbrev pub goes_on : Experiment → List Experiment → Bool
goes_on pair [] = false
goes_on pair (next ∷ pairs) = pair.line.0 == next.line.0

-- the maximal runs of pairs of one line, in their order: a pair stands in the run of the next
-- one if that has its line
abbrev pub by_line : List Experiment → List (List Experiment)
by_line [] = []
by_line (pair ∷ pairs) =
    if goes_on pair pairs then onto_first pair (by_line pairs) else (pair ∷ []) ∷ by_line pairs

-- all pairs of some lines, one line after the other
abbrev pub all_pairs : List (List Experiment) → List Experiment
all_pairs runs = flat_map (λ (run : List Experiment). run) runs

-- there are pairs, and all are of one line
pub record IsOfOneLine (pairs : List Experiment) : Type 0 where
  pub line : LineId
  pub some : 0 < length pairs
  pub each : All (λ (pair : Experiment). pair.line ≡ line) pairs
