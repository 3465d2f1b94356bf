use Rattle.std.proofs.Common.{◌∙◌, ℕ, List, ap}
use Rattle.std.proofs.lemmas.Result.{err_from_is_err_and}
use Rattle.coz_types.specs.declared.LineId.{LineId}
use Rattle.experiment_plan.specs.Selected.{ids}
use Rattle.experiment_plan.specs.declared.experiment.Experiment.{Experiment as Pair}
use Rattle.coz_commands.specs.Profiled.{pairs_of, profile_from}
use Rattle.coz_commands.specs.Verdict.{Verdict, plan_verdict, profile_verdict}
use Rattle.coz_commands.specs.Answer.{fault_verdict}
use Rattle.coz_commands.proofs.Profiling.{after_lines, after_selected, after_points}
use Rattle.coz_commands.proofs.profile.asked_plan.Goals as goal

pub returns-in_err-lines-clause-verdict : goal.returns-in_err-lines-clause-verdict
returns-in_err-lines-clause-verdict c =
    let gives = err_from_is_err_and c.from_residual.result c.from_residual.ensures.1 in
    rw (gives.1, gives.2)
    (λ other records.
    after_lines c.args.request.now c.args.index.now.lines records (fault_verdict c.in_err-lines.field-0.0) _ c.bytes_of.ensures
    (c.in_err-lines.ensures.verdict other))

pub returns-in_err-points-clause-verdict : goal.returns-in_err-points-clause-verdict
returns-in_err-points-clause-verdict c =
    let gives = err_from_is_err_and c.from_residual-in_err-points.result c.from_residual-in_err-points.ensures.1 in
    rw (gives.1, gives.2)
    (λ other records.
    after_selected c.args.request.now c.args.index.now.lines records (ids c.in_ok-lines.lines.items) _ c.bytes_of.ensures
    (c.in_ok-lines.ensures.verdict (λ never. never)) (fault_verdict c.in_err-points.field-0.0) _ c.bytes_of-2.ensures
    (c.in_err-points.ensures.verdict other))

pub returns-in_err-plan-clause-verdict : goal.returns-in_err-plan-clause-verdict
returns-in_err-plan-clause-verdict c =
    let gives = err_from_is_err_and c.from_residual-in_err-plan.result c.from_residual-in_err-plan.ensures.1 in
    let lines = c.in_ok-lines.lines.items in
    let asked = c.args.request.now in
    let points = c.in_ok-points.points.lines in
    rw (gives.1, gives.2)
    (λ other records.
    let next : List Pair → Verdict = λ pairs. profile_verdict (profile_from records c.args.index.now.lines asked.budget points pairs) in
    after_points asked c.args.index.now.lines records (ids lines) _ c.bytes_of.ensures
    (c.in_ok-lines.ensures.verdict (λ never. never)) points _ c.bytes_of-2.ensures
    (c.in_ok-points.ensures.verdict (λ never. never)) (fault_verdict c.in_err-plan.field-0.0)
    (c.in_err-plan.ensures.verdict other next
    ∙ ap (λ (speedups : List ℕ). plan_verdict (pairs_of (ids c.deref.result.now) speedups) next) c.as_slice.ensures
    ∙ ap (λ (lines : List LineId). plan_verdict (pairs_of (ids lines) asked.speedups) next) c.deref.ensures.value))

pub returns-clause-verdict : goal.returns-clause-verdict
returns-clause-verdict c = λ _ records.
    let lines = c.in_ok-lines.lines.items in
    let asked = c.args.request.now in
    let points = c.in_ok-points.points.lines in
    let next : List Pair → Verdict = λ pairs. profile_verdict (profile_from records c.args.index.now.lines asked.budget points pairs) in
    after_points asked c.args.index.now.lines records (ids lines) _ c.bytes_of.ensures
    (c.in_ok-lines.ensures.verdict (λ never. never)) points _ c.bytes_of-2.ensures
    (c.in_ok-points.ensures.verdict (λ never. never)) (next c.in_ok-plan.plan)
    (c.in_ok-plan.ensures.verdict (λ never. never) next
    ∙ ap (λ (speedups : List ℕ). plan_verdict (pairs_of (ids c.deref.result.now) speedups) next) c.as_slice.ensures
    ∙ ap (λ (lines : List LineId). plan_verdict (pairs_of (ids lines) asked.speedups) next) c.deref.ensures.value)
