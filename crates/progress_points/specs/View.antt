-- What callers see of points.
use Rattle.std.specs.Prelude.{◌≤◌, length}
use Rattle.std.specs.List.Sorted.{IsNonDecreasingBy}
use Rattle.coz_types.specs.declared.TheConstants.{MAX_POINTS}
use Rattle.progress_points.specs.declared.Points.TheInside.{Inside}
use Rattle.progress_points.specs.Points.{Points, Mark, ids}

abbrev pub points_view : Inside → Points
points_view inside = record { lines = ids inside.lines.items; marks = inside.marks.items }

pub record IsInOrder (inside : Inside) : Type 0 where
  pub few : length inside.lines.items ≤ MAX_POINTS
  pub in_order : IsNonDecreasingBy (λ (mark : Mark). mark.address) inside.marks.items
