use Rattle.std.proofs.Common.{ap, ◌∙◌, is_some, Option, ℕ}
use Rattle.coz_types.specs.declared.ending.Ending.{Ending}
use Rattle.machines.specs.Delayed.{Delayed}
use Rattle.timed_guest.specs.Guest.{Timed}
use Rattle.run_engine.specs.Seen.{Seen}
use Rattle.virtual_run.specs.DelayedRun.{net_due_of}
use Rattle.virtual_run.proofs.CreditedRun.{due_ended, due_goes, due_seen, timed_seen, not_over}
use Rattle.virtual_run.proofs.machine.Machine.net_due.Goals as goal

pub returns-in-Some-clause-due : goal.returns-in-Some-clause-due
returns-in-Some-clause-due c =
    let m = c.self.inside in
    due_ended m.image.now m.input.now m.setting m.engine m.credits m.moment c.self.invariant c.args.hart.0 c.in-Some.field-0 c.in-Some.is ∙ ap (λ (v : Seen (Delayed Timed)). net_due_of v.state c.args.hart.0) c.self.view_is

pub returns-in-None-clause-due : goal.returns-in-None-clause-due
returns-in-None-clause-due c =
    let m = c.self.inside in
    c.key.ensures.key ∙ due_goes m.image.now m.input.now m.setting m.engine m.credits m.moment c.self.invariant c.args.hart.0 c.in-None.is ∙ ap (λ (v : Seen (Delayed Timed)). net_due_of v.state c.args.hart.0) c.self.view_is

pub returns-in-Some-clause-shortened : goal.returns-in-Some-clause-shortened
returns-in-Some-clause-shortened c none =
    let m = c.self.inside in
    absurd (not_over m.image.now m.input.now m.setting m.engine m.credits m.moment c.self.invariant c.args.self.now c.self.view_is (ap (λ (o : Option Ending). is_some o) c.in-Some.is) none)

pub returns-in-None-clause-shortened : goal.returns-in-None-clause-shortened
returns-in-None-clause-shortened c none =
    let m = c.self.inside in
    c.key.ensures.key ∙ due_seen m.image.now m.input.now m.setting m.engine m.credits m.moment c.self.invariant c.args.self.now c.args.hart.0 c.self.view_is

pub returns-in-Some-clause-timed : goal.returns-in-Some-clause-timed
returns-in-Some-clause-timed c none =
    let m = c.self.inside in
    absurd (not_over m.image.now m.input.now m.setting m.engine m.credits m.moment c.self.invariant c.args.self.now c.self.view_is (ap (λ (o : Option Ending). is_some o) c.in-Some.is) none)

pub returns-in-None-clause-timed : goal.returns-in-None-clause-timed
returns-in-None-clause-timed c none =
    let m = c.self.inside in
    ap (λ (o : Option ℕ). is_some o) c.key.ensures.key ∙ timed_seen m.image.now m.input.now m.setting m.engine m.credits m.moment c.self.invariant c.args.self.now c.args.hart.0 c.self.view_is none
