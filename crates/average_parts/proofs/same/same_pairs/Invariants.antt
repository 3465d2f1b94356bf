use Rattle.std.proofs.Common.{◌≡◌, drop}
use Rattle.average_parts.specs.Likeness.{same_pairs}
use Rattle.average_parts.proofs.same.same_pairs.Given as goal

abbrev pub invariant-loop-i : goal.invariant-loop-i
invariant-loop-i l = same_pairs (drop l.i l.a) (drop l.i l.b) ≡ same_pairs l.a l.b
