use Rattle.std.proofs.Common.{rules}
use Rattle.page_cli.proofs.Newlines.{one_line, first_and_rest}
use Rattle.page_cli.proofs.source_lines.first_line.Goals as goal

pub returns-then-place-text-clause-lines : goal.returns-then-place-text-clause-lines
returns-then-place-text-clause-lines c = first_and_rest c.args.text.now c.first_newline-place.result c.first_newline-place.ensures.place (search rules)

pub returns-else-place-text-clause-lines : goal.returns-else-place-text-clause-lines
returns-else-place-text-clause-lines c = one_line c.args.text.now (search rules)
