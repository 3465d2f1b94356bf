use Rattle.std.proofs.Common.{ℕ, List, rules, refl, arith, length}
use Rattle.line_index.specs.Index.{position_at}
use Rattle.path_chains.specs.declared.event.Event.{Event}
use Rattle.path_chains.specs.Path.{event_at}
use Rattle.path_texts.proofs.PathShares.{all_counted, counts_more, fits_sleep, fits_work, place_below}
use Rattle.path_texts.proofs.shares.sums_of_all.Goals as goal

pub add_event-requires-clause-below : goal.add_event-requires-clause-below
add_event-requires-clause-below c =
    let index = c.args.index.now in
    let place = c.place_at-place.ensures.place in
    let room = c.loop-event.invariant.0.room in
    omega (arith, place, room, place_below (length index.lines) (position_at index (event_at c.args.events.now c.loop-event.event-index).address))

pub add_event-requires-clause-fits : goal.add_event-requires-clause-fits
add_event-requires-clause-fits c =
    let path : List Event = c.args.events.now in
    let i : ℕ = c.loop-event.event-index in
    let e : Event = event_at path i in
    fits_work path i e c.loop-event-test.true refl c.requires (position_at c.args.index.now) c.loop-event.sums (length c.args.index.now.lines) c.loop-event.invariant.0 c.place_at-place.result

pub add_event-requires-clause-sleep : goal.add_event-requires-clause-sleep
add_event-requires-clause-sleep c =
    let path : List Event = c.args.events.now in
    let i : ℕ = c.loop-event.event-index in
    let e : Event = event_at path i in
    fits_sleep path i e c.loop-event-test.true refl c.requires (position_at c.args.index.now) c.loop-event.sums (length c.args.index.now.lines) c.loop-event.invariant.0

pub loop-event-preserved : goal.loop-event-preserved
loop-event-preserved c =
    let path : List Event = c.args.events.now in
    let i : ℕ = c.loop-event.event-index in
    let e : Event = event_at path i in
    let added = c.add_event.ensures in
    let placed = c.place_at-place.ensures in (
      counts_more path i e c.loop-event-test.true refl c.requires (position_at c.args.index.now) (length c.args.index.now.lines) c.loop-event.sums c.add_event.new.sums c.place_at-place.result placed.place c.loop-event.invariant.0 added.sleep added.room added.each,
      placed.kept,
    )

pub returns : goal.returns
returns c = all_counted (position_at c.args.index.now) c.args.events.now (length c.args.index.now.lines) c.loop-event.event-index c.loop-event.sums (search rules) c.loop-event.invariant.0
