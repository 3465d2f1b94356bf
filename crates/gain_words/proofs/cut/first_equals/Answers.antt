use Rattle.std.proofs.Common.{rules}
use Rattle.gain_words.proofs.Cuts.{first}
use Rattle.gain_words.proofs.cut.first_equals.Goals as goal

pub returns-else-text-offset-ne61-clause-offset : goal.returns-else-text-offset-ne61-clause-offset
returns-else-text-offset-ne61-clause-offset c = first c.args.text.now c.loop-offset.offset c.loop-offset.invariant.0 c.loop-offset.invariant.1 (λ some. search rules)

pub returns-after-loop-offset-clause-offset : goal.returns-after-loop-offset-clause-offset
returns-after-loop-offset-clause-offset c = first c.args.text.now c.loop-offset.offset c.loop-offset.invariant.0 c.loop-offset.invariant.1 (λ some. absurd (search rules))
