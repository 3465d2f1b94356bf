use Rattle.std.proofs.Common.{rules}
use Rattle.experiment_plan.proofs.Pairing.{speedup_next}
use Rattle.experiment_plan.proofs.planning.push_line.Goals as goal

pub loop-speedup-preserved : goal.loop-speedup-preserved
loop-speedup-preserved c = speedup_next c.args.line c.args.speedups.now c.loop-speedup.speedup-index _ c.args.pairs.now.items _ _ (search rules) c.loop-speedup.invariant c.in_ok-push.ensures.items
