use Rattle.std.proofs.Common.{◌≡◌, take}
use Rattle.experiment_plan.specs.Pairs.{pairs_of}
use Rattle.experiment_plan.proofs.planning.pairs_of.Given as goal

abbrev pub invariant-loop-line : goal.invariant-loop-line
invariant-loop-line l = l.pairs.items ≡ pairs_of (take l.line-index l.lines) l.speedups
