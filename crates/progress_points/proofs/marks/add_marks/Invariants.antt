use Rattle.std.proofs.Common.{◌≡◌, ◌++◌, take}
use Rattle.progress_points.specs.Points.{marks_at}
use Rattle.progress_points.proofs.marks.add_marks.Given as goal

abbrev pub invariant-loop-address : goal.invariant-loop-address
invariant-loop-address l = l.marks.items ≡ l.fn.marks.items ++ marks_at l.point (take l.address-index l.addresses)
