use Rattle.std.proofs.Common.{rules}
use Rattle.experiment_plan.proofs.Cuts.{behind}
use Rattle.experiment_plan.proofs.line.behind_last_colon.Goals as goal

pub returns-else-text-offset-ne58-clause-offset : goal.returns-else-text-offset-ne58-clause-offset
returns-else-text-offset-ne58-clause-offset c = behind c.args.text.now c.loop-offset.offset c.loop-offset.invariant.0 c.loop-offset.invariant.1 (λ some. search rules)

pub returns-after-loop-offset-clause-offset : goal.returns-after-loop-offset-clause-offset
returns-after-loop-offset-clause-offset c = behind c.args.text.now c.loop-offset.offset c.loop-offset.invariant.0 c.loop-offset.invariant.1 (λ some. absurd (search rules))
