use Rattle.std.proofs.Common.{◌≡◌, ℕ, ◌+◌, ◌*◌, ◌^◌, ◌≤◌, None, subst, sym, ◌∙◌, arith, ap}
use Rattle.run_engine.specs.declared.choice.Choice.{Choice}
use Rattle.virtual_run.specs.Credited.{raise_ticks, moment_of, credited_by}
use Rattle.virtual_run.specs.DelayedRun.{IsPaced}
use Rattle.run_engine.proofs.Law.{on_machine}
use Rattle.virtual_run.proofs.CreditedRun.{goes_seen, is_steady, raised_few}
use Rattle.virtual_run.proofs.Far.{far_few, far_can, far_paced, far_next, far_more, far_none, far_within}
use Rattle.virtual_run.proofs.machine.Machine.events_far.Goals as goal

pub advance_far-event-requires-clause-steady : goal.advance_far-event-requires-clause-steady
advance_far-event-requires-clause-steady c =
    let m = c.self.inside in
    is_steady m.image.now m.input.now m.setting m.engine m.credits m.moment c.self.invariant (goes_seen m.image.now m.input.now m.setting m.engine m.credits m.moment c.self.invariant c.args.self.now c.self.view_is c.requires)

pub advance_far-event-requires-clause-setting : goal.advance_far-event-requires-clause-setting
advance_far-event-requires-clause-setting c = c.self.invariant.valid

pub advance_far-event-requires-clause-machine : goal.advance_far-event-requires-clause-machine
advance_far-event-requires-clause-machine c =
    let m = c.self.inside in
    on_machine m.image.now m.input.now m.setting c.self.invariant.valid m.engine c.self.invariant.reached

pub advance_far-event-requires-clause-delay : goal.advance_far-event-requires-clause-delay
advance_far-event-requires-clause-delay c =
    let m = c.self.inside in
    let few : m.credits.raised ≤ 41 * 10 ^ 15 = raised_few m.image.now m.input.now m.setting m.engine m.credits m.moment c.self.invariant in
    omega (arith, c.raised-raised.ensures)

pub account_event-self-inside-requires-clause-few : goal.account_event-self-inside-requires-clause-few
account_event-self-inside-requires-clause-few c =
    let m = c.self.inside in
    let new = c.advance_far-event.new.self in
    let event = c.advance_far-event.result in
    let delay : ℕ = c.raised-raised.result in
    let none : m.engine.ending ≡ None = goes_seen m.image.now m.input.now m.setting m.engine m.credits m.moment c.self.invariant c.args.self.now c.self.view_is c.requires in
    let few : m.credits.raised ≤ 41 * 10 ^ 15 = raised_few m.image.now m.input.now m.setting m.engine m.credits m.moment c.self.invariant in
    let time : moment_of event new ≤ 51 * 10 ^ 15 = far_few m.image.now m.input.now m.setting m.engine m.credits m.moment c.self.invariant new event delay c.raised-raised.ensures none c.advance_far-event.ensures in
    omega (arith, c.raised-raised.ensures)

pub account_event-self-inside-requires-clause-can : goal.account_event-self-inside-requires-clause-can
account_event-self-inside-requires-clause-can c =
    let m = c.self.inside in
    let none : m.engine.ending ≡ None = goes_seen m.image.now m.input.now m.setting m.engine m.credits m.moment c.self.invariant c.args.self.now c.self.view_is c.requires in
    far_can m.image.now m.input.now m.setting m.engine m.credits m.moment c.self.invariant c.advance_far-event.new.self c.advance_far-event.result c.raised-raised.result c.raised-raised.ensures none c.advance_far-event.ensures

pub invariant_of-self : goal.invariant_of-self
invariant_of-self c =
    let m = c.self.inside in
    let none : m.engine.ending ≡ None = goes_seen m.image.now m.input.now m.setting m.engine m.credits m.moment c.self.invariant c.args.self.now c.self.view_is c.requires in
    subst (λ (now : ℕ). IsPaced m.image.now m.input.now m.setting c.advance_far-event.new.self c.account_event-self-inside.new.credits now) (sym c.account_event-self-inside.ensures.moment)
    (far_paced m.image.now m.input.now m.setting m.engine m.credits m.moment c.self.invariant c.advance_far-event.new.self c.advance_far-event.result c.raised-raised.result c.raised-raised.ensures none c.advance_far-event.ensures
    c.account_event-self-inside.new.credits (c.account_event-self-inside.ensures.credits ∙ ap (λ (choice : Choice). credited_by c.advance_far-event.result c.advance_far-event.new.self (raise_ticks c.advance_far-event.new.self.guest choice.speedup) (moment_of c.advance_far-event.result c.advance_far-event.new.self + c.raised-raised.result) m.credits) c.choice.ensures))

pub returns-clause-next : goal.returns-clause-next
returns-clause-next c =
    let m = c.self.inside in
    let none : m.engine.ending ≡ None = goes_seen m.image.now m.input.now m.setting m.engine m.credits m.moment c.self.invariant c.args.self.now c.self.view_is c.requires in
    far_next m.image.now m.input.now m.setting m.engine m.credits m.moment c.self.invariant c.advance_far-event.new.self c.advance_far-event.result c.raised-raised.result c.raised-raised.ensures none c.advance_far-event.ensures
    c.account_event-self-inside.new.credits (c.account_event-self-inside.ensures.credits ∙ ap (λ (choice : Choice). credited_by c.advance_far-event.result c.advance_far-event.new.self (raise_ticks c.advance_far-event.new.self.guest choice.speedup) (moment_of c.advance_far-event.result c.advance_far-event.new.self + c.raised-raised.result) m.credits) c.choice.ensures) c.args.self.now c.self.view_is

pub returns-clause-more : goal.returns-clause-more
returns-clause-more c =
    let m = c.self.inside in
    let none : m.engine.ending ≡ None = goes_seen m.image.now m.input.now m.setting m.engine m.credits m.moment c.self.invariant c.args.self.now c.self.view_is c.requires in
    far_more m.image.now m.input.now m.setting m.engine m.credits m.moment c.self.invariant c.advance_far-event.new.self c.advance_far-event.result c.raised-raised.result c.raised-raised.ensures none c.advance_far-event.ensures
    c.account_event-self-inside.new.credits (c.account_event-self-inside.ensures.credits ∙ ap (λ (choice : Choice). credited_by c.advance_far-event.result c.advance_far-event.new.self (raise_ticks c.advance_far-event.new.self.guest choice.speedup) (moment_of c.advance_far-event.result c.advance_far-event.new.self + c.raised-raised.result) m.credits) c.choice.ensures) c.args.self.now c.self.view_is

pub returns-clause-starts : goal.returns-clause-starts
returns-clause-starts c =
    let m = c.self.inside in
    let none : m.engine.ending ≡ None = goes_seen m.image.now m.input.now m.setting m.engine m.credits m.moment c.self.invariant c.args.self.now c.self.view_is c.requires in
    far_none m.image.now m.input.now m.setting m.engine m.credits m.moment c.self.invariant c.advance_far-event.new.self c.advance_far-event.result c.raised-raised.result c.raised-raised.ensures none c.advance_far-event.ensures
    c.account_event-self-inside.new.credits (c.account_event-self-inside.ensures.credits ∙ ap (λ (choice : Choice). credited_by c.advance_far-event.result c.advance_far-event.new.self (raise_ticks c.advance_far-event.new.self.guest choice.speedup) (moment_of c.advance_far-event.result c.advance_far-event.new.self + c.raised-raised.result) m.credits) c.choice.ensures) c.args.self.now c.self.view_is

pub returns-clause-within : goal.returns-clause-within
returns-clause-within c =
    let m = c.self.inside in
    let none : m.engine.ending ≡ None = goes_seen m.image.now m.input.now m.setting m.engine m.credits m.moment c.self.invariant c.args.self.now c.self.view_is c.requires in
    far_within m.image.now m.input.now m.setting m.engine m.credits m.moment c.self.invariant c.advance_far-event.new.self c.advance_far-event.result c.raised-raised.result c.raised-raised.ensures none c.advance_far-event.ensures
    c.account_event-self-inside.new.credits (c.account_event-self-inside.ensures.credits ∙ ap (λ (choice : Choice). credited_by c.advance_far-event.result c.advance_far-event.new.self (raise_ticks c.advance_far-event.new.self.guest choice.speedup) (moment_of c.advance_far-event.result c.advance_far-event.new.self + c.raised-raised.result) m.credits) c.choice.ensures) c.args.self.now c.self.view_is
