use Rattle.std.proofs.Common.{ap, subst, sym, is_some, ◌∙◌}
use Rattle.machines.specs.Guest.{Experiment}
use Rattle.machines.specs.Delayed.{Delayed, events}
use Rattle.machines.specs.Shortened.{shortened}
use Rattle.machines.specs.Agreement.{Agrees}
use Rattle.timed_guest.specs.Guest.{Timed}
use Rattle.run_engine.specs.Seen.{Seen, experiment_of}
use Rattle.virtual_run.proofs.CreditedRun.{going_first, ending_now, agrees_seen}
use Rattle.virtual_run.proofs.Stepped.{IsStepped, stepped_first, goes_here, stepped_next, stepped_smaller, step_next, step_steps, step_over, step_rest}
use Rattle.virtual_run.proofs.machine.Machine.step.Goals as goal

pub event-requires : goal.event-requires
event-requires c = goes_here c.args.self.now c.loop-going.self c.loop-going.going c.loop-going-test.true c.loop-going.invariant

pub returns-clause-next : goal.returns-clause-next
returns-clause-next c none = step_next c.args.self.now c.loop-going.self c.loop-going.going c.loop-going-test.false c.loop-going.invariant

pub returns-clause-steps : goal.returns-clause-steps
returns-clause-steps c = step_steps c.args.self.now c.loop-going.self c.loop-going.going c.loop-going-test.false c.loop-going.invariant

pub returns-clause-over : goal.returns-clause-over
returns-clause-over c = step_over c.args.self.now c.loop-going.self c.loop-going.going c.loop-going-test.false c.loop-going.invariant

pub returns-clause-rest : goal.returns-clause-rest
returns-clause-rest c = step_rest c.args.self.now c.loop-going.self c.loop-going.going c.loop-going-test.false c.loop-going.invariant

pub loop-going-smaller : goal.loop-going-smaller
loop-going-smaller c =
    let e = c.event.ensures in
    stepped_smaller c.args.self.now c.loop-going.self c.loop-going.going c.loop-going-test.true c.loop-going.invariant c.event.new.self c.event.result e.next e.count e.happens e.rest

pub loop-going-init : goal.loop-going-init
loop-going-init c =
    let m = c.self.inside in
    stepped_first c.args.self.now c.is_none-going.result (going_first m.image.now m.input.now m.setting m.engine m.credits m.moment c.self.invariant c.args.self.now c.self.view_is).at
    (ap (λ (v : Seen (Delayed Timed)). is_some v.state.ending) (sym c.self.view_is) ∙ ap is_some (ending_now m.image.now m.input.now m.setting m.engine m.credits m.moment c.self.invariant) ∙ c.is_none-going.ensures)

pub loop-going-preserved : goal.loop-going-preserved
loop-going-preserved c =
    let e = c.event.ensures in
    subst (IsStepped c.args.self.now c.event.new.self) (sym c.is_wake-going.ensures)
    (stepped_next c.args.self.now c.loop-going.self c.loop-going.going c.loop-going-test.true c.loop-going.invariant c.event.new.self c.event.result e.next e.count e.happens e.rest)

pub returns-clause-ended : goal.returns-clause-ended
returns-clause-ended c =
    let m = c.self-2.inside in
    sym (ending_now m.image.now m.input.now m.setting m.engine m.credits m.moment c.self-2.invariant) ∙ ap (λ (v : Seen (Delayed Timed)). v.state.ending) c.self-2.view_is

pub returns-clause-agrees : goal.returns-clause-agrees
returns-clause-agrees c =
    let m = c.self-2.inside in
    subst (λ (x : Experiment Timed). Agrees c.loop-going.self.state (shortened x (events c.loop-going.self.state)))
    (ap experiment_of (step_rest c.args.self.now c.loop-going.self c.loop-going.going c.loop-going-test.false c.loop-going.invariant))
    (agrees_seen m.image.now m.input.now m.setting m.engine m.credits m.moment c.self-2.invariant c.loop-going.self c.self-2.view_is)
