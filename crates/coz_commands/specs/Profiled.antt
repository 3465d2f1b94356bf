-- What a request for a profile asks for: the lines that are selected in turn, the pairs
-- of the plan, and the profile of their runs.
use Rattle.std.specs.Prelude.{ℕ, List, Some}
use Rattle.coz_types.specs.Image.{ImageParts}
use Rattle.dwarf_lines.specs.Registers.{Table}
use Rattle.line_index.specs.Index.{Index, position_at}
use Rattle.line_index.specs.Lines.{Line}
use Rattle.line_index.specs.Listed.{position_in}
use Rattle.progress_points.specs.Points.{point_in}
use Rattle.timing_laws.specs.Noted.{Noted}
use Rattle.timing_laws.specs.Cores.{Cores}
use Rattle.timing_model.specs.declared.timing.Timing.{Timing}
use Rattle.guest_timing.specs.Timed.{timed}
use Rattle.machines.specs.Guest.{Experiment}
use Rattle.machines.specs.Records.{Record}
use Rattle.machines.specs.Standing.{delayed_record}
use Rattle.guest_calls.specs.Guest.{Guest}
use Rattle.experiment_plan.specs.declared.experiment.Experiment.{Experiment as Pair}
use Rattle.profile_book.specs.declared.profile.Profile.{Profile}
use Rattle.run_engine.specs.Choices.{choice_of}
use Rattle.run_engine.specs.declared.choice.Choice.{Choice}
pub use Rattle.profile_pool.specs.Profiles.{pairs_of, profile_with, summary_on}
pub use Rattle.program_load.specs.Selection.{all_lines}
use Rattle.run_inputs.specs.Experiment.{Runs, entries_of}

-- the experiment of a pair
abbrev pub experiment_of_pair : Runs → ℕ → List ℕ → Pair → Experiment Guest
experiment_of_pair runs budget points pair =
    runs (choice_of (Some pair.line.0) pair.speedup budget) points

-- what the run of a choice leaves, with the lines at these positions as points
abbrev pub Records : Type 0
Records = Choice → List ℕ → Record

-- what the delayed runs leave
abbrev pub delayed_records : {G : Type 0} → (Choice → List ℕ → Experiment G) → Records
delayed_records runs choice points = delayed_record (runs choice points)

-- the runs of a program with its line table on a machine of the timing model, as
-- `experiment_by_table` has those of the guest alone
unfoldable pub timed_by_table : Timing → ImageParts → Table → List ℕ → Choice → List ℕ
    → Experiment (Cores (Noted Guest))
timed_by_table t image table input choice points =
    timed t image (position_in table image.areas) (point_in (entries_of image table) points) input
    choice

-- the same by an index of its lines
abbrev pub timed_in : Timing → ImageParts → Index → List ℕ → Choice → List ℕ
    → Experiment (Cores (Noted Guest))
timed_in t image index input choice points =
    timed t image (position_at index) (point_in index.entries points) input choice

-- the profile of what the pairs' runs leave
abbrev pub profile_from : Records → List Line → ℕ → List ℕ → List Pair → Profile
profile_from records lines budget points pairs =
    profile_with (λ pair. records (choice_of (Some pair.line.0) pair.speedup budget) points)
    lines budget points pairs

-- the profile of the pairs' delayed runs
abbrev pub profile_of : Runs → List Line → ℕ → List ℕ → List Pair → Profile
profile_of runs lines budget points pairs =
    profile_with (λ pair. delayed_record (experiment_of_pair runs budget points pair))
    lines budget points pairs
