use Rattle.std.proofs.Common.{rules}
use Rattle.experiment_plan.proofs.Pairing.{line_next}
use Rattle.experiment_plan.proofs.planning.pairs_of.Goals as goal

pub loop-line-preserved : goal.loop-line-preserved
loop-line-preserved c = line_next c.args.lines.now c.args.speedups.now c.loop-line.line-index _ _ _ (search rules) c.loop-line.invariant c.in_ok-push_line.ensures
