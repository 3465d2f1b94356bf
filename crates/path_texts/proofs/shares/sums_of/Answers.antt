use Rattle.std.proofs.Common.{ℕ, ◌≤◌, List, rules, arith, length}
use Rattle.line_index.specs.Index.{position_at}
use Rattle.path_chains.specs.declared.event.Event.{Event}
use Rattle.path_texts.specs.PathText.{events_on}
use Rattle.path_texts.proofs.PathShares.{all_counted, chain_item, counts_more, fits_sleep, fits_work, many_on, place_below, weight_is, within}
use Rattle.path_texts.proofs.shares.sums_of.Goals as goal

pub add_event-requires-clause-below : goal.add_event-requires-clause-below
add_event-requires-clause-below c =
    let index = c.args.index.now in
    let place = c.place_at-place.ensures.place in
    let room = c.loop-number.invariant.0.room in
    omega (arith, place, room, place_below (length index.lines) (position_at index c.event_of-event.result.address))

pub add_event-requires-clause-fits : goal.add_event-requires-clause-fits
add_event-requires-clause-fits c =
    let events : List Event = c.args.events.now in
    let chain : List ℕ = c.args.chain.now in
    let path : List Event = events_on events chain in
    let i : ℕ = c.loop-number.number-index in
    let e : Event = c.event_of-event.result in
    fits_work path i e (within events chain i (search rules)) (chain_item events chain i e (search rules) (search rules)) (omega (arith, c.requires, weight_is events chain)) (position_at c.args.index.now) c.loop-number.sums (length c.args.index.now.lines) c.loop-number.invariant.0 c.place_at-place.result

pub add_event-requires-clause-sleep : goal.add_event-requires-clause-sleep
add_event-requires-clause-sleep c =
    let events : List Event = c.args.events.now in
    let chain : List ℕ = c.args.chain.now in
    let path : List Event = events_on events chain in
    let i : ℕ = c.loop-number.number-index in
    let e : Event = c.event_of-event.result in
    fits_sleep path i e (within events chain i (search rules)) (chain_item events chain i e (search rules) (search rules)) (omega (arith, c.requires, weight_is events chain)) (position_at c.args.index.now) c.loop-number.sums (length c.args.index.now.lines) c.loop-number.invariant.0

pub loop-number-preserved : goal.loop-number-preserved
loop-number-preserved c =
    let events : List Event = c.args.events.now in
    let chain : List ℕ = c.args.chain.now in
    let path : List Event = events_on events chain in
    let i : ℕ = c.loop-number.number-index in
    let e : Event = c.event_of-event.result in
    let added = c.add_event.ensures in
    let placed = c.place_at-place.ensures in (
      counts_more path i e (within events chain i (search rules)) (chain_item events chain i e (search rules) (search rules)) (omega (arith, c.requires, weight_is events chain)) (position_at c.args.index.now) (length c.args.index.now.lines) c.loop-number.sums c.add_event.new.sums c.place_at-place.result placed.place c.loop-number.invariant.0 added.sleep added.room added.each,
      placed.kept,
    )

pub returns : goal.returns
returns c = all_counted (position_at c.args.index.now) (events_on c.args.events.now c.args.chain.now) (length c.args.index.now.lines) c.loop-number.number-index c.loop-number.sums (let done : length c.args.chain.now ≤ c.loop-number.number-index = search rules in omega (arith, done, many_on c.args.events.now c.args.chain.now)) c.loop-number.invariant.0
