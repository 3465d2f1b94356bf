use Rattle.std.proofs.Common.{◌∙◌, ap}
use Rattle.coz_commands.specs.Verdict.{ended_verdict, really_verdict}
use Rattle.coz_commands.proofs.runs.short_answer.Goals as goal

pub returns-clause-verdict : goal.returns-clause-verdict
returns-clause-verdict c = λ other.
    let run = c.run-ending in
    c.printed_run.ensures ∙ ap (ended_verdict run.result) c.in_ok-text.ensures ∙ ap really_verdict run.ensures.record
