-- The experiment on a program.
use Rattle.std.specs.Prelude.{ℕ, List, map}
use Rattle.coz_types.specs.Image.{ImageParts}
use Rattle.program_load.specs.declared.program.Program.{Program}
use Rattle.dwarf_lines.specs.Registers.{Table}
use Rattle.line_index.specs.Index.{Index, position_at}
use Rattle.line_index.specs.Listed.{lines_in, entries_in, position_in}
use Rattle.progress_points.specs.Points.{point_in}
use Rattle.machines.specs.Guest.{Experiment}
use Rattle.guest_calls.specs.Guest.{Guest}
use Rattle.run_engine.specs.declared.choice.Choice.{Choice}
use Rattle.run_engine.specs.Run.{experiment}
pub use Rattle.run_engine.specs.Choices.{choice_of}

-- the runs of a program on an input: the experiment of a choice, with the lines at these
-- positions as points
abbrev pub Runs : Type 0
Runs = Choice → List ℕ → Experiment Guest

-- the entry addresses of each line of a program, in the order of its lines
abbrev pub entries_of : ImageParts → Table → List (List ℕ)
entries_of image table = map (entries_in table image.areas) (lines_in table image.areas)

-- the run of a program with its line table on an input, under a choice and with the lines
-- at these positions as points: each address has the line that the table says,
-- and the entry addresses of the points' lines are those points
unfoldable pub experiment_by_table : ImageParts → Table → List ℕ → Runs
experiment_by_table image table input choice points =
    experiment image (position_in table image.areas)
    (point_in (entries_of image table) points) input choice

-- the same by an index of its lines
abbrev pub runs_in : ImageParts → Index → List ℕ → Runs
runs_in image index input choice points =
    experiment image (position_at index) (point_in index.entries points) input choice

-- the same of a program that was read
abbrev pub runs_on : Program → List ℕ → Runs
runs_on program = runs_in program.image program.index
