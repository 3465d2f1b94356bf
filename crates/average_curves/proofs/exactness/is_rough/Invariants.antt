use Rattle.std.proofs.Common.{◌≡◌, ◌+◌, drop}
use Rattle.average_curves.specs.Curves.{is_rough}
use Rattle.average_curves.proofs.exactness.is_rough.Given as goal

-- no step so far differs
abbrev pub invariant-loop-i : goal.invariant-loop-i
invariant-loop-i l = is_rough l.base l.point l.exact (l.start + l.i) (drop l.i l.steps) ≡ is_rough l.base l.point l.exact l.start l.steps
