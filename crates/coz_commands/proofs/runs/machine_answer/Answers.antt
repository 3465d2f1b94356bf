use Rattle.std.proofs.Common.{◌∙◌, ap, refl, sym, subst}
use Rattle.std.specs.Prelude.{IsSome}
use Rattle.coz_commands.specs.Verdict.{ended_verdict, run_verdict}
use Rattle.coz_commands.proofs.runs.machine_answer.Goals as goal

pub machine_text-requires-clause-ended : goal.machine_text-requires-clause-ended
machine_text-requires-clause-ended c = subst IsSome (sym c.run-ending.ensures.ended) refl

pub returns-clause-verdict : goal.returns-clause-verdict
returns-clause-verdict c = λ other.
    let run = c.run-ending in
    c.printed_run.ensures ∙ ap (ended_verdict run.result) (c.in_ok-text.ensures run.result run.ensures.ended) ∙ ap run_verdict run.ensures.record
