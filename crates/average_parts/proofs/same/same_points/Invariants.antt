use Rattle.std.proofs.Common.{◌≡◌, drop}
use Rattle.average_parts.specs.Likeness.{same_points}
use Rattle.average_parts.proofs.same.same_points.Given as goal

abbrev pub invariant-loop-i : goal.invariant-loop-i
invariant-loop-i l = same_points (drop l.i l.a) (drop l.i l.b) ≡ same_points l.a l.b
