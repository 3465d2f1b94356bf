use Rattle.std.proofs.Common.{ℕ, ◌≤◌, Some, ap, subst, sym, ◌∙◌}
use Rattle.machines.specs.Delayed.{Delayed}
use Rattle.timed_guest.specs.Guest.{Timed}
use Rattle.run_engine.specs.Seen.{Seen}
use Rattle.virtual_run.specs.DelayedRun.{outcome_of}
use Rattle.virtual_run.proofs.CreditedRun.{outcome_some, outcome_none, outcome_small, none_seen, delay_in_time}
use Rattle.virtual_run.proofs.machine.Machine.outcome.Goals as goal

pub returns-in_err-ending-clause-outcome : goal.returns-in_err-ending-clause-outcome
returns-in_err-ending-clause-outcome c =
    let m = c.self.inside in
    c.from_residual.ensures ∙ outcome_none m.image.now m.input.now m.setting m.engine m.credits m.moment c.self.invariant c.in_err-ending.was ∙ ap (λ (v : Seen (Delayed Timed)). outcome_of v.state) c.self.view_is

pub returns-clause-outcome : goal.returns-clause-outcome
returns-clause-outcome c =
    let m = c.self.inside in
    ap (λ delay. Some (record { ending = c.in_ok-ending.ending; time = m.moment; delay = delay; retired = m.engine.retired; starts = m.engine.starts })) c.raised.ensures
    ∙ outcome_some m.image.now m.input.now m.setting m.engine m.credits m.moment c.self.invariant c.in_ok-ending.ending c.in_ok-ending.was
    ∙ ap (λ (v : Seen (Delayed Timed)). outcome_of v.state) c.self.view_is

pub returns-in_err-ending-clause-in_time : goal.returns-in_err-ending-clause-in_time
returns-in_err-ending-clause-in_time c =
    let m = c.self.inside in
    rw c.from_residual.ensures (none_seen m.image.now m.input.now m.setting m.engine m.credits m.moment c.self.invariant c.args.self.now c.self.view_is c.in_err-ending.was)

pub returns-clause-in_time : goal.returns-clause-in_time
returns-clause-in_time c =
    let m = c.self.inside in
    subst (λ (n : ℕ). n ≤ m.moment) (sym c.raised.ensures) (delay_in_time m.image.now m.input.now m.setting m.engine m.credits m.moment c.self.invariant c.in_ok-ending.ending c.in_ok-ending.was)

pub returns-in_err-ending-clause-small : goal.returns-in_err-ending-clause-small
returns-in_err-ending-clause-small c = rw c.from_residual.ensures tt

pub returns-clause-small : goal.returns-clause-small
returns-clause-small c =
    let m = c.self.inside in
    outcome_small m.image.now m.input.now m.setting m.engine m.credits m.moment c.self.invariant c.in_ok-ending.ending c.raised.result c.in_ok-ending.was
