use Rattle.std.proofs.Common.{◌≡◌, Some, None, ap, sym, ◌∙◌}
use Rattle.machines.specs.Delayed.{Delayed}
use Rattle.timed_guest.specs.Guest.{Timed}
use Rattle.run_engine.specs.Seen.{Seen}
use Rattle.run_engine.proofs.Law.{none_is}
use Rattle.virtual_run.proofs.CreditedRun.{ending_now, going_first, going_far, far_smaller, record_now, last_now, agrees_last, delayed_now, law_now, moves_now, once_now, shortened_now}
use Rattle.virtual_run.proofs.machine.Machine.run.Goals as goal

pub loop-ending-init : goal.loop-ending-init
loop-ending-init c =
    let m = c.self.inside in (
      going_first m.image.now m.input.now m.setting m.engine m.credits m.moment c.self.invariant c.args.self.now c.self.view_is,
      sym (ending_now m.image.now m.input.now m.setting m.engine m.credits m.moment c.self.invariant) ∙ ap (λ (v : Seen (Delayed Timed)). v.state.ending) c.self.view_is,
    )

pub loop-ending-preserved : goal.loop-ending-preserved
loop-ending-preserved c =
    let e = c.events_far.ensures in
    (going_far c.args.self.now c.loop-ending.self c.loop-ending.invariant.0 c.events_far.new.self e.next e.within e.rest, c.ending-ending.ensures)

pub events_far-requires : goal.events_far-requires
events_far-requires c = sym c.loop-ending.invariant.1 ∙ none_is c.loop-ending.ending c.is_none.result c.is_none.ensures c.loop-ending-test.true

pub loop-ending-smaller : goal.loop-ending-smaller
loop-ending-smaller c =
    let none : c.loop-ending.self.state.ending ≡ None = sym c.loop-ending.invariant.1 ∙ none_is c.loop-ending.ending c.is_none.result c.is_none.ensures c.loop-ending-test.true in
    far_smaller c.args.self.now c.loop-ending.self c.loop-ending.invariant.0.at c.events_far.new.self none c.events_far.ensures.more

pub returns-clause-ended : goal.returns-clause-ended
returns-clause-ended c =
    let over : c.loop-ending.self.state.ending ≡ Some c.in-Some.ending = sym c.loop-ending.invariant.1 ∙ c.in-Some.is in
    over

pub returns-clause-record : goal.returns-clause-record
returns-clause-record c =
    let over : c.loop-ending.self.state.ending ≡ Some c.in-Some.ending = sym c.loop-ending.invariant.1 ∙ c.in-Some.is in
    record_now c.args.self.now c.loop-ending.self c.loop-ending.invariant.0 c.in-Some.ending over

pub returns-clause-delayed : goal.returns-clause-delayed
returns-clause-delayed c =
    delayed_now c.args.self.now c.loop-ending.self c.loop-ending.invariant.0

pub returns-clause-law : goal.returns-clause-law
returns-clause-law c =
    law_now c.args.self.now c.loop-ending.self c.loop-ending.invariant.0

pub returns-clause-moves : goal.returns-clause-moves
returns-clause-moves c = moves_now c.args.self.now c.loop-ending.self c.loop-ending.invariant.0

pub returns-clause-one : goal.returns-clause-one
returns-clause-one c = once_now c.args.self.now c.loop-ending.self c.loop-ending.invariant.0

pub returns-clause-shortened : goal.returns-clause-shortened
returns-clause-shortened c =
    shortened_now c.args.self.now c.loop-ending.self c.loop-ending.invariant.0

pub returns-clause-last : goal.returns-clause-last
returns-clause-last c =
    let over : c.loop-ending.self.state.ending ≡ Some c.in-Some.ending = sym c.loop-ending.invariant.1 ∙ c.in-Some.is in
    last_now c.args.self.now c.loop-ending.self c.loop-ending.invariant.0 c.in-Some.ending over

pub returns-clause-agrees : goal.returns-clause-agrees
returns-clause-agrees c =
    let over : c.loop-ending.self.state.ending ≡ Some c.in-Some.ending = sym c.loop-ending.invariant.1 ∙ c.in-Some.is in
    agrees_last c.args.self.now c.loop-ending.self c.loop-ending.invariant.0 c.in-Some.ending over
