use Rattle.std.proofs.lemmas.Result.{err_from_is_err_and}
use Rattle.coz_commands.proofs.Profiling.{plan_few, plan_many}
use Rattle.coz_commands.proofs.profile.planned.Goals as goal

pub returns-in_err-plan-clause-verdict : goal.returns-in_err-plan-clause-verdict
returns-in_err-plan-clause-verdict c =
    let gives = err_from_is_err_and c.from_residual.result c.from_residual.ensures.1 in
    rw (gives.1, gives.2) (λ other next. plan_many c.args.lines.now c.args.speedups.now c.in_err-plan.field-0.0 next c.in_err-plan.ensures.plan other)

pub returns-clause-verdict : goal.returns-clause-verdict
returns-clause-verdict c = λ _ next. plan_few c.args.lines.now c.args.speedups.now c.in_ok-plan.plan next c.in_ok-plan.ensures.plan
