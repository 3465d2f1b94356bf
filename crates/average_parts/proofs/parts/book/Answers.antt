use Rattle.std.proofs.Common.{◌∙◌, ap}
use Rattle.average_parts.specs.Verdict.{timed_in}
use Rattle.average_parts.proofs.Reading.{book_read}
use Rattle.average_parts.proofs.parts.book.Goals as goal

pub returns-in-Ok-clause-judged : goal.returns-in-Ok-clause-judged
returns-in-Ok-clause-judged c =
    let read = c.in-Ok.ensures in
    λ _. book_read c.args.path.now c.timed_text.result.1.now c.timed_text.result.0 c.in-Ok.profile read.exact read.found ∙ ap (timed_in c.args.path.now) c.timed_text.ensures
