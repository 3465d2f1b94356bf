use Rattle.std.proofs.Common.{◌≡◌, ◌++◌, length}
use Rattle.std.specs.List.{All}
use Rattle.causal_curves.specs.Curves.{curves_at}
use Rattle.causal_curves.specs.Measured.{IsMeasured}
use Rattle.causal_curves.proofs.ranked.push_curves.Given as goal

abbrev pub invariant-loop-rest : goal.invariant-loop-rest
invariant-loop-rest l = record {
  measured : All (IsMeasured l.point) l.rest;
  so_far : l.into.items ++ curves_at l.rest l.point ≡ l.fn.into.items ++ curves_at l.summaries l.point;
}

abbrev pub decreases-loop-rest : goal.decreases-loop-rest
decreases-loop-rest l = length l.rest
