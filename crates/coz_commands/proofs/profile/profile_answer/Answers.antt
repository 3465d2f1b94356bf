use Rattle.std.proofs.Common.{◌∙◌}
use Rattle.std.proofs.lemmas.Result.{err_from_is_err_and}
use Rattle.coz_commands.specs.Profiled.{delayed_records, timed_in}
use Rattle.coz_commands.proofs.profile.profile_answer.Goals as goal

pub returns-in_err-asked-clause-verdict : goal.returns-in_err-asked-clause-verdict
returns-in_err-asked-clause-verdict g c =
    let gives = err_from_is_err_and c.from_residual.result c.from_residual.ensures.1 in
    rw (gives.1, gives.2) (λ other. c.in_err-asked.ensures.verdict other (delayed_records (timed_in c.args.timing c.args.program.now.image c.args.program.now.index c.args.input.now)))

pub returns-clause-verdict : goal.returns-clause-verdict
returns-clause-verdict g c = λ other.
    c.plan_answer.ensures.verdict other ∙ c.in_ok-asked.ensures.verdict (λ never. never) (delayed_records (timed_in c.args.timing c.args.program.now.image c.args.program.now.index c.args.input.now))
