use Rattle.std.proofs.Common.{length, ap, sym, arith, ◌∙◌}
use Rattle.run_engine.proofs.Law.{none_is}
use Rattle.plain_run.proofs.Walking.{can_note, count_on, first_walked, more_left, steady_now, walked_on}
use Rattle.plain_run.proofs.walk.walk.Goals as goal

pub loop-engine-init : goal.loop-engine-init
loop-engine-init c = λ image input first. first_walked image input _ _ _ c.requires.setting first c.requires.told

pub advance-event-requires-clause-steady : goal.advance-event-requires-clause-steady
advance-event-requires-clause-steady c =
    let first = c.requires.first in
    steady_now first.image first.input _ _ _ (c.loop-engine.invariant first.image first.input first.first) (sym c.ending.ensures ∙ none_is c.ending.result c.is_none.result c.is_none.ensures c.loop-engine-test.true)

pub note-requires : goal.note-requires
note-requires c =
    let first = c.requires.first in
    can_note first.image first.input _ _ _ (c.loop-engine.invariant first.image first.input first.first) (sym c.ending.ensures ∙ none_is c.ending.result c.is_none.result c.is_none.ensures c.loop-engine-test.true)
    c.advance-event.new.self c.advance-event.result c.advance-event.ensures

pub loop-engine-preserved : goal.loop-engine-preserved
loop-engine-preserved c = λ image input first.
    walked_on image input _ _ _ (c.loop-engine.invariant image input first) (sym c.ending.ensures ∙ none_is c.ending.result c.is_none.result c.is_none.ensures c.loop-engine-test.true)
    c.advance-event.new.self c.advance-event.result c.advance-event.ensures c.len-before.result (c.len-before.ensures.count ∙ ap length c.ready.ensures) c.note.new.waits c.note.ensures

pub loop-engine-smaller : goal.loop-engine-smaller
loop-engine-smaller c =
    let first = c.requires.first in
    let walked = c.loop-engine.invariant first.image first.input first.first in
    let none = sym c.ending.ensures ∙ none_is c.ending.result c.is_none.result c.is_none.ensures c.loop-engine-test.true in
    let below = more_left first.image first.input _ _ _ walked none in
    let count = count_on first.image first.input _ _ _ walked none c.advance-event.new.self c.advance-event.result c.advance-event.ensures in
    omega (arith, below, count)
