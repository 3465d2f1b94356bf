use Rattle.std.proofs.Common.{◌≡◌, ℕ, ◌+◌, ◌*◌, ◌^◌, ◌≤◌, None, subst, sym, ◌∙◌, arith, ap}
use Rattle.machines.specs.Standing.{standing}
use Rattle.run_engine.specs.declared.choice.Choice.{Choice}
use Rattle.virtual_run.specs.Credited.{raise_ticks, moment_of, credited_by}
use Rattle.run_engine.specs.Run.{experiment_in}
use Rattle.run_engine.specs.Engine.{events_of}
use Rattle.virtual_run.specs.DelayedRun.{IsPaced}
use Rattle.virtual_run.proofs.CreditedRun.{goes_seen, next_seen, count_seen, happens_seen, events_now, is_steady, raised_few, event_few, event_count, can_follow, paced_event, happens_event}
use Rattle.virtual_run.proofs.machine.Machine.event.Goals as goal

pub advance-event-requires-clause-steady : goal.advance-event-requires-clause-steady
advance-event-requires-clause-steady c =
    let m = c.self.inside in
    is_steady m.image.now m.input.now m.setting m.engine m.credits m.moment c.self.invariant (goes_seen m.image.now m.input.now m.setting m.engine m.credits m.moment c.self.invariant c.args.self.now c.self.view_is c.requires)

pub advance-event-requires-clause-delay : goal.advance-event-requires-clause-delay
advance-event-requires-clause-delay c =
    let m = c.self.inside in
    let few : m.credits.raised ≤ 41 * 10 ^ 15 = raised_few m.image.now m.input.now m.setting m.engine m.credits m.moment c.self.invariant in
    omega (arith, c.raised-raised.ensures)

pub account_event-self-inside-requires-clause-few : goal.account_event-self-inside-requires-clause-few
account_event-self-inside-requires-clause-few c =
    let m = c.self.inside in
    let new = c.advance-event.new.self in
    let event = c.advance-event.result in
    let delay : ℕ = c.raised-raised.result in
    let none : m.engine.ending ≡ None = goes_seen m.image.now m.input.now m.setting m.engine m.credits m.moment c.self.invariant c.args.self.now c.self.view_is c.requires in
    let few : m.credits.raised ≤ 41 * 10 ^ 15 = raised_few m.image.now m.input.now m.setting m.engine m.credits m.moment c.self.invariant in
    let time : moment_of event new ≤ 51 * 10 ^ 15 = event_few m.image.now m.input.now m.setting m.engine m.credits m.moment c.self.invariant new event delay c.raised-raised.ensures none (rw c.setting.ensures at c.advance-event.ensures) in
    omega (arith, c.raised-raised.ensures)

pub account_event-self-inside-requires-clause-can : goal.account_event-self-inside-requires-clause-can
account_event-self-inside-requires-clause-can c =
    let m = c.self.inside in
    let new = c.advance-event.new.self in
    let event = c.advance-event.result in
    let delay : ℕ = c.raised-raised.result in
    let none : m.engine.ending ≡ None = goes_seen m.image.now m.input.now m.setting m.engine m.credits m.moment c.self.invariant c.args.self.now c.self.view_is c.requires in
    (can_follow m.image.now m.input.now m.setting m.engine m.credits m.moment c.self.invariant new event delay c.raised-raised.ensures none (rw c.setting.ensures at c.advance-event.ensures))

pub invariant_of-self : goal.invariant_of-self
invariant_of-self c =
    let m = c.self.inside in
    let new = c.advance-event.new.self in
    let event = c.advance-event.result in
    let delay : ℕ = c.raised-raised.result in
    let none : m.engine.ending ≡ None = goes_seen m.image.now m.input.now m.setting m.engine m.credits m.moment c.self.invariant c.args.self.now c.self.view_is c.requires in
    subst (λ (now : ℕ). IsPaced m.image.now m.input.now m.setting new c.account_event-self-inside.new.credits now) (sym c.account_event-self-inside.ensures.moment)
    (paced_event m.image.now m.input.now m.setting m.engine m.credits m.moment c.self.invariant new event delay c.raised-raised.ensures none (rw c.setting.ensures at c.advance-event.ensures) c.account_event-self-inside.new.credits
    (c.account_event-self-inside.ensures.credits ∙ ap (λ (choice : Choice). credited_by c.advance-event.result c.advance-event.new.self (raise_ticks c.advance-event.new.self.guest choice.speedup) (moment_of c.advance-event.result c.advance-event.new.self + c.raised-raised.result) m.credits) c.choice.ensures))

pub returns-clause-next : goal.returns-clause-next
returns-clause-next c =
    let m = c.self.inside in
    let new = c.advance-event.new.self in
    let event = c.advance-event.result in
    let delay : ℕ = c.raised-raised.result in
    let none : m.engine.ending ≡ None = goes_seen m.image.now m.input.now m.setting m.engine m.credits m.moment c.self.invariant c.args.self.now c.self.view_is c.requires in
    next_seen m.image.now m.input.now m.setting m.engine m.credits m.moment c.self.invariant c.args.self.now (events_of new) c.self.view_is (event_count m.image.now m.input.now m.setting m.engine m.credits m.moment c.self.invariant new event delay c.raised-raised.ensures none (rw c.setting.ensures at c.advance-event.ensures))

pub returns-clause-count : goal.returns-clause-count
returns-clause-count c =
    let m = c.self.inside in
    let new = c.advance-event.new.self in
    let event = c.advance-event.result in
    let delay : ℕ = c.raised-raised.result in
    let none : m.engine.ending ≡ None = goes_seen m.image.now m.input.now m.setting m.engine m.credits m.moment c.self.invariant c.args.self.now c.self.view_is c.requires in
    let after : IsPaced m.image.now m.input.now m.setting new c.account_event-self-inside.new.credits (moment_of event new + delay) =
    paced_event m.image.now m.input.now m.setting m.engine m.credits m.moment c.self.invariant new event delay c.raised-raised.ensures none (rw c.setting.ensures at c.advance-event.ensures) c.account_event-self-inside.new.credits
    (c.account_event-self-inside.ensures.credits ∙ ap (λ (choice : Choice). credited_by c.advance-event.result c.advance-event.new.self (raise_ticks c.advance-event.new.self.guest choice.speedup) (moment_of c.advance-event.result c.advance-event.new.self + c.raised-raised.result) m.credits) c.choice.ensures) in
    events_now m.image.now m.input.now m.setting new c.account_event-self-inside.new.credits (moment_of event new + delay) after
    ∙ count_seen m.image.now m.input.now m.setting m.engine m.credits m.moment c.self.invariant c.args.self.now (events_of new) c.self.view_is (event_count m.image.now m.input.now m.setting m.engine m.credits m.moment c.self.invariant new event delay c.raised-raised.ensures none (rw c.setting.ensures at c.advance-event.ensures))

pub returns-clause-happens : goal.returns-clause-happens
returns-clause-happens c =
    let m = c.self.inside in
    let new = c.advance-event.new.self in
    let event = c.advance-event.result in
    let delay : ℕ = c.raised-raised.result in
    let none : m.engine.ending ≡ None = goes_seen m.image.now m.input.now m.setting m.engine m.credits m.moment c.self.invariant c.args.self.now c.self.view_is c.requires in
    happens_seen m.image.now m.input.now m.setting m.engine m.credits m.moment c.self.invariant c.args.self.now event (standing (experiment_in m.image.now m.input.now m.setting) (events_of new)) c.self.view_is (happens_event m.image.now m.input.now m.setting m.engine m.credits m.moment c.self.invariant new event delay c.raised-raised.ensures none (rw c.setting.ensures at c.advance-event.ensures))
