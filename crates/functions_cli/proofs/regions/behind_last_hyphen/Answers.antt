use Rattle.std.proofs.Common.{rules}
use Rattle.functions_cli.proofs.Naming.{behind}
use Rattle.functions_cli.proofs.regions.behind_last_hyphen.Goals as goal

pub returns-else-text-offset-ne45-clause-offset : goal.returns-else-text-offset-ne45-clause-offset
returns-else-text-offset-ne45-clause-offset c = behind c.args.text.now c.loop-offset.offset c.loop-offset.invariant.0 c.loop-offset.invariant.1 (λ some. search rules)

pub returns-after-loop-offset-clause-offset : goal.returns-after-loop-offset-clause-offset
returns-after-loop-offset-clause-offset c = behind c.args.text.now c.loop-offset.offset c.loop-offset.invariant.0 c.loop-offset.invariant.1 (λ some. absurd (search rules))
