use Rattle.std.proofs.Common.{rules}
use Rattle.page_cli.proofs.Newlines.{first}
use Rattle.page_cli.proofs.source_lines.first_newline.Goals as goal

pub returns-else-text-place-ne10-clause-place : goal.returns-else-text-place-ne10-clause-place
returns-else-text-place-ne10-clause-place c = first c.args.text.now c.loop-place.place c.loop-place.invariant.0 c.loop-place.invariant.1 (λ some. search rules)

pub returns-after-loop-place-clause-place : goal.returns-after-loop-place-clause-place
returns-after-loop-place-clause-place c = first c.args.text.now c.loop-place.place c.loop-place.invariant.0 c.loop-place.invariant.1 (λ some. absurd (search rules))
