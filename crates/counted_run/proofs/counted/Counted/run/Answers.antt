use Rattle.std.proofs.Common.{◌≡◌, ◌<◌, ◌+◌, ◌*◌, ◌∙◌, ap, sym, arith}
use Rattle.machines.specs.Delayed.{Delayed}
use Rattle.timed_guest.specs.Guest.{Timed}
use Rattle.run_engine.specs.declared.choice.Setting.{Setting}
use Rattle.run_engine.specs.Run.{experiment_in}
use Rattle.run_engine.specs.Seen.{Seen, view_in, experiment_of}
use Rattle.run_engine.specs.Engine.{events_of}
use Rattle.run_engine.proofs.Law.{steady, none_is}
use Rattle.run_counts.specs.Counts.{counts_of}
use Rattle.counted_run.proofs.Counting.{are_within, still_few, still_room, few_begun, made_after, counting_on, count_on, more_left}
use Rattle.counted_run.proofs.Recorded.{ending_is, record_is, last_is, delayed_run, law_is, same_seen}
use Rattle.counted_run.proofs.counted.Counted.run.Goals as goal
use Rattle.counted_run.proofs.counted.Counted.run.Goals.{In-Some}

pub advance-event-requires-clause-steady : goal.advance-event-requires-clause-steady
advance-event-requires-clause-steady c =
    let now = c.loop-self.self-inside in
    let counting = c.loop-self.invariant.0 in
    steady now.image.now now.input.now now.setting counting.valid now.engine counting.reached
    (sym c.ending.ensures ∙ none_is c.ending.result c.is_none.result c.is_none.ensures c.loop-self-test.true)

pub advance-event-requires-clause-speedup : goal.advance-event-requires-clause-speedup
advance-event-requires-clause-speedup c = c.loop-self.invariant.0.valid.choice.speedup

pub count_begun-requires-clause-made : goal.count_begun-requires-clause-made
count_begun-requires-clause-made c =
    let now = c.loop-self.self-inside in
    let none = sym c.ending.ensures ∙ none_is c.ending.result c.is_none.result c.is_none.ensures c.loop-self-test.true in
    made_after now.image.now now.input.now now.setting now.engine (counts_of now.tallies) c.loop-self.invariant.0 none c.advance-event.new.self c.advance-event.result c.advance-event.ensures

pub count_begun-requires-clause-within : goal.count_begun-requires-clause-within
count_begun-requires-clause-within c =
    let now = c.loop-self.self-inside in
    are_within now.image.now now.input.now now.setting now.engine (counts_of now.tallies) c.loop-self.invariant.0

pub count_begun-requires-clause-few : goal.count_begun-requires-clause-few
count_begun-requires-clause-few c =
    let now = c.loop-self.self-inside in
    let none = sym c.ending.ensures ∙ none_is c.ending.result c.is_none.result c.is_none.ensures c.loop-self-test.true in
    let few = still_few now.image.now now.input.now now.setting now.engine (counts_of now.tallies) c.loop-self.invariant.0 in
    let more = few_begun now.image.now now.input.now now.setting now.engine (counts_of now.tallies) c.loop-self.invariant.0 none c.advance-event.new.self c.advance-event.result c.advance-event.ensures in
    omega arith

pub count_begun-requires-clause-room : goal.count_begun-requires-clause-room
count_begun-requires-clause-room c =
    let now = c.loop-self.self-inside in
    let none = sym c.ending.ensures ∙ none_is c.ending.result c.is_none.result c.is_none.ensures c.loop-self-test.true in
    let room = still_room now.image.now now.input.now now.setting now.engine (counts_of now.tallies) c.loop-self.invariant.0 in
    let more = few_begun now.image.now now.input.now now.setting now.engine (counts_of now.tallies) c.loop-self.invariant.0 none c.advance-event.new.self c.advance-event.result c.advance-event.ensures in
    omega arith

pub loop-self-preserved : goal.loop-self-preserved
loop-self-preserved c =
    let now = c.loop-self.self-inside in
    let before = c.loop-self.invariant in
    let none = sym c.ending.ensures ∙ none_is c.ending.result c.is_none.result c.is_none.ensures c.loop-self-test.true in (
      counting_on now.image.now now.input.now now.setting now.engine (counts_of now.tallies) before.0 none c.advance-event.new.self c.advance-event.result c.advance-event.ensures
          (counts_of c.count_begun.new.tallies) c.count_begun.ensures,
      before.1,
      before.2,
      before.3,
    )

pub loop-self-smaller : goal.loop-self-smaller
loop-self-smaller c =
    let now = c.loop-self.self-inside in
    let counting = c.loop-self.invariant.0 in
    let none = sym c.ending.ensures ∙ none_is c.ending.result c.is_none.result c.is_none.ensures c.loop-self-test.true in
    let below : events_of now.engine < 2 * now.setting.choice.budget = more_left now.image.now now.input.now now.setting now.engine (counts_of now.tallies) counting none in
    let count : events_of c.advance-event.new.self ≡ events_of now.engine + 1 = count_on now.image.now now.input.now now.setting now.engine (counts_of now.tallies) counting none c.advance-event.new.self c.advance-event.result c.advance-event.ensures in
    omega (arith, below, count)

pub returns-clause-ended : goal.returns-clause-ended
returns-clause-ended c =
    let now = c.loop-self.self-inside in
    ending_is now.image.now now.input.now now.setting now.engine (counts_of now.tallies) c.loop-self.invariant.0 ∙ (sym c.ending-2.ensures ∙ c.in-Some.is)

-- the setting and what else is run are those of the call
image_is : (c : In-Some) → c.loop-self.self-inside.image.now ≡ c.args.self.now.image
image_is c = c.loop-self.invariant.1 ∙ ap (λ (s : Seen (Delayed Timed)). s.image) c.self.view_is

index_is : (c : In-Some) → c.loop-self.self-inside.setting.index.now ≡ c.args.self.now.index
index_is c = ap (λ (s : Setting). s.index.now) c.loop-self.invariant.3 ∙ ap (λ (s : Seen (Delayed Timed)). s.index) c.self.view_is

points_are : (c : In-Some) → c.loop-self.self-inside.setting.points.now ≡ c.args.self.now.points
points_are c = ap (λ (s : Setting). s.points.now) c.loop-self.invariant.3 ∙ ap (λ (s : Seen (Delayed Timed)). s.points) c.self.view_is

timing_is : (c : In-Some) → c.loop-self.self-inside.setting.timing ≡ c.args.self.now.timing
timing_is c = ap (λ (s : Setting). s.timing) c.loop-self.invariant.3 ∙ ap (λ (s : Seen (Delayed Timed)). s.timing) c.self.view_is

input_is : (c : In-Some) → c.loop-self.self-inside.input.now ≡ c.args.self.now.input
input_is c = c.loop-self.invariant.2 ∙ ap (λ (s : Seen (Delayed Timed)). s.input) c.self.view_is

choice_is : (c : In-Some) → c.loop-self.self-inside.setting.choice ≡ c.args.self.now.choice
choice_is c = ap (λ (s : Setting). s.choice) c.loop-self.invariant.3 ∙ ap (λ (s : Seen (Delayed Timed)). s.choice) c.self.view_is

seen_is : (c : In-Some) (state : Delayed Timed)
    → view_in c.loop-self.self-inside.image.now c.loop-self.self-inside.input.now c.loop-self.self-inside.setting (λ _. state) ≡ record c.args.self.now { state = state }
seen_is c state =
    same_seen c.loop-self.self-inside.image.now c.args.self.now.image c.loop-self.self-inside.setting.index.now c.args.self.now.index c.loop-self.self-inside.setting.points.now c.args.self.now.points c.loop-self.self-inside.setting.timing c.args.self.now.timing
    c.loop-self.self-inside.input.now c.args.self.now.input c.loop-self.self-inside.setting.choice c.args.self.now.choice state (image_is c) (index_is c) (points_are c) (timing_is c) (input_is c) (choice_is c)

-- so what is run is what was to be run
as_before : (c : In-Some) → experiment_of c.args.self.now ≡ experiment_in c.loop-self.self-inside.image.now c.loop-self.self-inside.input.now c.loop-self.self-inside.setting
as_before c = ap experiment_of (sym (seen_is c c.args.self.now.state))

pub returns-clause-record : goal.returns-clause-record
returns-clause-record c =
    let now = c.loop-self.self-inside in
    record_is now.image.now now.input.now now.setting now.engine (counts_of now.tallies) c.loop-self.invariant.0 (experiment_of c.args.self.now) (as_before c) c.in-Some.ending (sym c.ending-2.ensures ∙ c.in-Some.is)

pub returns-clause-last : goal.returns-clause-last
returns-clause-last c =
    let now = c.loop-self.self-inside in
    last_is now.image.now now.input.now now.setting now.engine (counts_of now.tallies) c.loop-self.invariant.0 (experiment_of c.args.self.now) (as_before c) c.in-Some.ending (sym c.ending-2.ensures ∙ c.in-Some.is)

pub returns-clause-delayed : goal.returns-clause-delayed
returns-clause-delayed c =
    let now = c.loop-self.self-inside in
    delayed_run now.image.now now.input.now now.setting now.engine (counts_of now.tallies) c.loop-self.invariant.0 (experiment_of c.args.self.now) (as_before c) c.in-Some.ending (sym c.ending-2.ensures ∙ c.in-Some.is)

pub returns-clause-law : goal.returns-clause-law
returns-clause-law c =
    let now = c.loop-self.self-inside in
    law_is now.image.now now.input.now now.setting now.engine (counts_of now.tallies) c.loop-self.invariant.0 (experiment_of c.args.self.now) (as_before c) c.in-Some.ending (sym c.ending-2.ensures ∙ c.in-Some.is)

pub returns-clause-rest : goal.returns-clause-rest
returns-clause-rest c = seen_is c _
