use Rattle.std.proofs.Common.{ap₂, ◌-◌, ◌≤◌, ◌∙◌, ℕ, sym, subst}
use Rattle.std.specs.List.{All}
use Rattle.coz_types.specs.declared.record.Visit.{Visit}
use Rattle.coz_commands.proofs.RunEnds.{outcome_is, measured_is}
use Rattle.coz_commands.proofs.measuring.latency_of_run.Goals as goal

pub measure-requires-clause-within : goal.measure-requires-clause-within
measure-requires-clause-within c =
    let is = outcome_is c.outcome_of-outcome.result c.args.machine.now.state c.outcome_of-outcome.ensures.outcome in
    let end = c.net_end-net.ensures ∙ ap₂ (λ (t u : ℕ). t - u) is.time is.delay in
    subst (λ (t : ℕ). All (λ (v : Visit). v.time - v.delay ≤ t) c.visits.result.now) (sym end) (c.visits.ensures.within c.requires)

pub returns : goal.returns
returns c ending over =
    let is = outcome_is c.outcome_of-outcome.result c.args.machine.now.state c.outcome_of-outcome.ensures.outcome in
    measured_is c.args.machine.now c.visits.result.now c.args.arrive.now c.args.depart.now c.outcome_of-outcome.result c.net_end-net.result c.measure.result ending is over c.visits.ensures.visits c.net_end-net.ensures
    c.measure.ensures.latency
