use Rattle.std.proofs.Common.{◌≡◌, ℕ, take}
use Rattle.progress_points.specs.Points.{first_point, point_in, ids}
use Rattle.progress_points.proofs.marks.marks_by_line.Given as goal

abbrev pub invariant-loop-point : goal.invariant-loop-point
invariant-loop-point l = (a : ℕ) → first_point a l.marks.items ≡ point_in l.index.entries (ids (take l.point l.lines)) a
