-- The profile of some lines of a program.
use Rattle.std.specs.Prelude.{ℕ, List, length, map, Some}
use Rattle.coz_types.specs.Image.{ImageParts}
use Rattle.coz_types.specs.declared.record.Summary.{Summary}
use Rattle.line_index.specs.Lines.{Line, label_at}
use Rattle.line_index.specs.Index.{Index, position_at}
use Rattle.progress_points.specs.Points.{Points, point_of}
use Rattle.machines.specs.Records.{Record}
use Rattle.machines.specs.Standing.{delayed_record}
use Rattle.experiment_plan.specs.Pairs.{planned_pairs}
use Rattle.experiment_plan.specs.declared.experiment.Experiment.{Experiment as Pair}
use Rattle.run_engine.specs.Run.{experiment}
use Rattle.profile_book.specs.declared.profile.Profile.{Profile}
use Rattle.run_engine.specs.Choices.{choice_of}
use Rattle.profile_pool.specs.Summaries.{summary_of}

-- the pairs of the lines at these positions: each at 0 and at each speedup
abbrev pub pairs_of : List ℕ → List ℕ → List Pair
pairs_of positions speedups = planned_pairs (map (λ (l : ℕ). record { 0 = l }) positions) speedups

-- the summary of a pair's run that left this record
abbrev pub summary_on : List Line → List ℕ → Pair → Record → Summary
summary_on lines points pair run =
    summary_of (label_at lines pair.line.0) pair.speedup (length points) run

-- the profile of the pairs of a plan, of which each left this record: the budget, the labels of
-- the points' lines, and a summary of each pair, in the plan's order
abbrev pub profile_with : (Pair → Record) → List Line → ℕ → List ℕ → List Pair → Profile
profile_with run lines budget points pairs = record {
  budget = budget;
  points = map (label_at lines) points;
  summaries = map (λ pair. summary_on lines points pair (run pair)) pairs;
}

-- the record that the delayed run of a pair leaves
unfoldable pub record_in : ImageParts → Index → Points → List ℕ → ℕ → Pair → Record
record_in image index points input budget pair =
    delayed_record (experiment image (position_at index) (point_of points) input
    (choice_of (Some pair.line.0) pair.speedup budget))

-- the profile of the lines at these positions, each run at 0 and at each of these speedups
abbrev pub profile_of_lines : ImageParts → Index → Points → List ℕ → ℕ → List ℕ → List ℕ → Profile
profile_of_lines image index points input budget speedups lines =
    profile_with (record_in image index points input budget) index.lines budget points.lines
    (pairs_of lines speedups)
