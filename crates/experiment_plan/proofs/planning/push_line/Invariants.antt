use Rattle.std.proofs.Common.{◌≡◌, ◌++◌, map, take}
use Rattle.experiment_plan.specs.Pairs.{at_speedup}
use Rattle.experiment_plan.proofs.planning.push_line.Given as goal

abbrev pub invariant-loop-speedup : goal.invariant-loop-speedup
invariant-loop-speedup l = l.pairs.items ≡ l.fn.pairs.items ++ map (at_speedup l.line) (take l.speedup-index l.speedups)
