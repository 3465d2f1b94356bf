-- An index of a program's table says of its lines and runs what the table says.
use Rattle.std.proofs.Common.{◌≡◌, ℕ, List, Option, refl, ap, ap₂, ◌∙◌}
use Rattle.std.proofs.Math.Path.{fun_ext}
use Rattle.coz_types.specs.Image.{ImageParts}
use Rattle.dwarf_lines.specs.Registers.{Table}
use Rattle.line_index.specs.Index.{Index, IsIndex, position_at}
use Rattle.line_index.specs.Listed.{lines_in, position_in}
use Rattle.line_index.proofs.Listed.{lines_are, entries_are, positions_are}
use Rattle.progress_points.specs.Points.{Points, IsPoints, point_of, point_in}
use Rattle.run_engine.specs.Run.{experiment}
use Rattle.run_engine.specs.declared.choice.Choice.{Choice}
use Rattle.run_inputs.specs.Experiment.{Runs, entries_of, experiment_by_table, runs_in}
use Rattle.run_inputs.specs.Verdict.{Judging}

module _ (image : ImageParts) (table : Table) (input : List ℕ) where
  -- the runs with these entries and positions
  abbrev runs_with : List (List ℕ) → (ℕ → Option ℕ) → Runs
  runs_with entries position choice points = experiment image position (point_in entries points) input choice

  runs_are : runs_with (entries_of image table) (position_in table image.areas) ≡ experiment_by_table image table input
  unfolding experiment_by_table
  runs_are = refl

  module _ (index : Index) (is : IsIndex table image.areas index) where
    same_runs : runs_in image index input ≡ experiment_by_table image table input
    same_runs =
        ap (runs_with index.entries) (fun_ext (positions_are is))
        ∙ ap (λ (es : List (List ℕ)). runs_with es (position_in table image.areas)) (entries_are is)
        ∙ runs_are

    pub indexed : (next : Judging) → next index.lines (runs_in image index input) ≡ next (lines_in table image.areas) (experiment_by_table image table input)
    indexed next = ap₂ next (lines_are is) same_runs

    -- and so of what the position of an address decides too
    pub indexed_at : (next : (ℕ → Option ℕ) → Judging) → next (position_at index) index.lines (runs_in image index input) ≡ next (position_in table image.areas) (lines_in table image.areas) (experiment_by_table image table input)
    indexed_at next =
        ap (λ (position : ℕ → Option ℕ). next position index.lines (runs_in image index input)) (fun_ext (positions_are is))
        ∙ indexed (next (position_in table image.areas))

-- the points that were made of lines of an index
pub points_are : (index : Index) (lines : List ℕ) (points : Points) → IsPoints index lines points → point_of points ≡ point_in index.entries lines
points_are index lines points is = fun_ext is.each

-- the experiment of points that were made of lines
pub experiment_is : (image : ImageParts) (index : Index) (input : List ℕ) (points : Points) (lines : List ℕ) (made given : Choice) → IsPoints index lines points → made ≡ given
    → experiment image (position_at index) (point_of points) input made ≡ runs_in image index input given lines
experiment_is image index input points lines made given is same =
    ap₂ (λ (p : ℕ → Option ℕ) (c : Choice). experiment image (position_at index) p input c) (points_are index lines points is) same
