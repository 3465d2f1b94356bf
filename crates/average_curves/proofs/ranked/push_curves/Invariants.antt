use Rattle.std.proofs.Common.{◌≡◌, ◌+◌, ◌++◌, length}
use Rattle.std.specs.List.{AllByRecursion}
use Rattle.profile_labels.specs.Groups.{groups}
use Rattle.average_curves.specs.Curves.{curves_at, curves_from, IsShort}
use Rattle.average_curves.proofs.ranked.push_curves.Given as goal

abbrev pub invariant-loop-rest : goal.invariant-loop-rest
invariant-loop-rest l = record {
  place : l.start + length l.rest ≡ length l.runs;
  short : AllByRecursion IsShort (groups l.rest);
  so_far : l.into.items ++ curves_from l.averaged l.point l.start (groups l.rest) ≡ l.fn.into.items ++ curves_at l.averaged l.runs l.point;
}

abbrev pub decreases-loop-rest : goal.decreases-loop-rest
decreases-loop-rest l = length l.rest
