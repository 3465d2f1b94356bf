use Rattle.std.proofs.Common.{◌∙◌, sym, arith}
use Rattle.run_engine.proofs.Law.{none_is}
use Rattle.critical_path.specs.Walk.{IsMadeOf}
use Rattle.critical_path.proofs.Walking.{first_is, steady_now, more_left, can_record, walked_on, count_on, done, traced_done}
use Rattle.critical_path.proofs.walked.trace_engine.Goals as goal

pub loop-engine-init : goal.loop-engine-init
loop-engine-init c = λ image input first. first_is image input _ _ _ _ c.requires.setting c.requires.few first c.in_ok-walked.ensures.events c.in_ok-walked.ensures.room c.in_ok-walked.ensures.causes

pub address_due-address-requires : goal.address_due-address-requires
address_due-address-requires c =
    let first = c.requires.first in
    steady_now first.image first.input _ _ _ _ (c.loop-engine.invariant first.image first.input first.first) (sym c.ending.ensures ∙ none_is c.ending.result c.is_none.result c.is_none.ensures c.loop-engine-test.true)

pub advance-moved-requires-clause-steady : goal.advance-moved-requires-clause-steady
advance-moved-requires-clause-steady c =
    let first = c.requires.first in
    steady_now first.image first.input _ _ _ _ (c.loop-engine.invariant first.image first.input first.first) (sym c.ending.ensures ∙ none_is c.ending.result c.is_none.result c.is_none.ensures c.loop-engine-test.true)

pub record_move-requires : goal.record_move-requires
record_move-requires c =
    let first = c.requires.first in
    can_record first.image first.input _ _ _ _ (c.loop-engine.invariant first.image first.input first.first) (sym c.ending.ensures ∙ none_is c.ending.result c.is_none.result c.is_none.ensures c.loop-engine-test.true)
    c.advance-moved.new.self c.advance-moved.result c.advance-moved.ensures

pub loop-engine-preserved : goal.loop-engine-preserved
loop-engine-preserved c = λ image input first.
    let walked = c.loop-engine.invariant image input first in
    walked_on image input _ _ _ _ walked (sym c.ending.ensures ∙ none_is c.ending.result c.is_none.result c.is_none.ensures c.loop-engine-test.true) c.advance-moved.new.self c.advance-moved.result c.advance-moved.ensures
    c.address_due-address.result c.address_due-address.ensures c.record_move.new.walked.causes.items c.record_move.new.walked.events.items (c.in_ok-record_move.ensures.room ∙ walked.room) c.in_ok-record_move.ensures.recorded

pub loop-engine-smaller : goal.loop-engine-smaller
loop-engine-smaller c =
    let first = c.requires.first in
    let walked = c.loop-engine.invariant first.image first.input first.first in
    let none = sym c.ending.ensures ∙ none_is c.ending.result c.is_none.result c.is_none.ensures c.loop-engine-test.true in
    let below = more_left first.image first.input _ _ _ _ walked none in
    let count = count_on first.image first.input _ _ _ _ walked none c.advance-moved.new.self c.advance-moved.result c.advance-moved.ensures in
    omega (arith, below, count)

pub returns : goal.returns
returns c =
    traced_done c.trace_of.result (λ t. IsMadeOf t c.in-Some.ending c.loop-engine.walked.events.items c.loop-engine.engine.guest.guest.output) _
    (λ t made. λ image input first. done image input _ _ _ _ (c.loop-engine.invariant image input first) c.in-Some.ending (sym c.ending-2.ensures ∙ c.in-Some.is) t made) c.trace_of.ensures
