use Rattle.std.proofs.Common.{List, ℕ, ◌<◌, Ok, Err, subst, sym}
use Rattle.std.specs.List.{All}
use Rattle.std.proofs.lemmas.Result.{err_from_is_err_and}
use Rattle.coz_types.specs.declared.LineId.{LineId}
use Rattle.experiment_plan.specs.Pairs.{IsPlan}
use Rattle.experiment_plan.specs.declared.experiment.Experiment.{Experiment as Pair}
use Rattle.coz_commands.proofs.Trials.{plan_is, plan_memory}
use Rattle.coz_commands.proofs.trial.trial_plan.Goals as goal

pub returns-in_err-plan-clause-memory : goal.returns-in_err-plan-clause-memory
returns-in_err-plan-clause-memory c =
    let gives = err_from_is_err_and c.from_residual-in_err-plan.result c.from_residual-in_err-plan.ensures.1 in
    let lines = c.in_ok-lines.lines.items in
    let error = c.in_err-plan.field-0.0 in
    let planned = subst (λ (ps : List ℕ). IsPlan lines ps (Err error)) c.as_slice.ensures (subst (λ (ls : List LineId). IsPlan ls c.as_slice.result.now (Err error)) c.deref.ensures.value c.in_err-plan.ensures.plan) in
    rw (gives.1, gives.2) (plan_memory lines error c.in_ok-lines.ensures.few planned)

pub returns-clause-plan : goal.returns-clause-plan
returns-clause-plan c =
    let lines = c.in_ok-lines.lines.items in
    let pairs = c.in_ok-plan.plan in
    let is_plan = subst (λ (ps : List ℕ). IsPlan lines ps (Ok pairs)) c.as_slice.ensures (subst (λ (ls : List LineId). IsPlan ls c.as_slice.result.now (Ok pairs)) c.deref.ensures.value c.in_ok-plan.ensures.plan) in
    plan_is lines pairs c.args.index.now.lines c.count.result is_plan c.in_ok-lines.ensures.lines c.count.ensures

pub returns-clause-below : goal.returns-clause-below
returns-clause-below c =
    let count = c.count.result in
    let lines = subst (All (λ (line : LineId). line.0 < count)) (sym c.deref.ensures.value) c.in_ok-lines.ensures.below in
    subst (λ (n : ℕ). All (λ (pair : Pair). pair.line.0 < n) c.in_ok-plan.plan) c.count.ensures (c.in_ok-plan.ensures.below count lines)
