use Rattle.std.proofs.Common.{◌≡◌, ◌<◌, ◌*◌, ◌∙◌, ap, sym, arith}
use Rattle.machines.specs.Shortened.{Shortened}
use Rattle.timed_guest.specs.Guest.{Timed}
use Rattle.run_engine.specs.declared.choice.Setting.{Setting}
use Rattle.run_engine.specs.Run.{experiment_in}
use Rattle.run_engine.specs.Seen.{Seen, view_in, experiment_of}
use Rattle.run_engine.specs.Engine.{events_of}
use Rattle.run_engine.proofs.Law.{steady, on_machine, none_is, ended_now}
use Rattle.shortened_run.proofs.Law.{short_far, far_count, short_below, recorded_of, last_of, shortened_of, same_seen}
use Rattle.shortened_run.proofs.Short.run.Goals as goal
use Rattle.shortened_run.proofs.Short.run.Goals.{In-Some}

pub advance_far-requires-clause-steady : goal.advance_far-requires-clause-steady
advance_far-requires-clause-steady c =
    let now = c.loop-self.self-inside in
    let short = c.loop-self.invariant.0 in
    steady now.image.now now.input.now now.setting short.valid now.engine short.reached
    (sym c.ending.ensures ∙ none_is c.ending.result c.is_none.result c.is_none.ensures c.loop-self-test.true)

pub advance_far-requires-clause-setting : goal.advance_far-requires-clause-setting
advance_far-requires-clause-setting c = c.loop-self.invariant.0.valid

pub advance_far-requires-clause-machine : goal.advance_far-requires-clause-machine
advance_far-requires-clause-machine c =
    let now = c.loop-self.self-inside in
    let short = c.loop-self.invariant.0 in
    on_machine now.image.now now.input.now now.setting short.valid now.engine short.reached

pub loop-self-preserved : goal.loop-self-preserved
loop-self-preserved c =
    let now = c.loop-self.self-inside in
    let before = c.loop-self.invariant in
    let none = sym c.ending.ensures ∙ none_is c.ending.result c.is_none.result c.is_none.ensures c.loop-self-test.true in (
      short_far now.image.now now.input.now now.setting now.engine before.0 none c.advance_far.new.self c.advance_far.result c.advance_far.ensures,
      before.1,
      before.2,
      before.3,
    )

pub loop-self-smaller : goal.loop-self-smaller
loop-self-smaller c =
    let now = c.loop-self.self-inside in
    let short = c.loop-self.invariant.0 in
    let none = sym c.ending.ensures ∙ none_is c.ending.result c.is_none.result c.is_none.ensures c.loop-self-test.true in
    let below : events_of now.engine < 2 * now.setting.choice.budget = short_below now.image.now now.input.now now.setting now.engine short none c.advance_far.new.self in
    let more : events_of now.engine < events_of c.advance_far.new.self = far_count now.image.now now.input.now now.setting now.engine short none c.advance_far.new.self c.advance_far.result c.advance_far.ensures in
    omega (arith, below, more)

pub returns-clause-ended : goal.returns-clause-ended
returns-clause-ended c =
    let now = c.loop-self.self-inside in
    let short = c.loop-self.invariant.0 in
    ended_now now.image.now now.input.now now.setting short.valid now.engine short.reached c.in-Some.ending (sym c.ending-2.ensures ∙ c.in-Some.is)

-- the setting and what else is run are those of the call
image_is : (c : In-Some) → c.loop-self.self-inside.image.now ≡ c.args.self.now.image
image_is c = c.loop-self.invariant.1 ∙ ap (λ (s : Seen (Shortened Timed)). s.image) c.self.view_is

index_is : (c : In-Some) → c.loop-self.self-inside.setting.index.now ≡ c.args.self.now.index
index_is c = ap (λ (s : Setting). s.index.now) c.loop-self.invariant.3 ∙ ap (λ (s : Seen (Shortened Timed)). s.index) c.self.view_is

points_are : (c : In-Some) → c.loop-self.self-inside.setting.points.now ≡ c.args.self.now.points
points_are c = ap (λ (s : Setting). s.points.now) c.loop-self.invariant.3 ∙ ap (λ (s : Seen (Shortened Timed)). s.points) c.self.view_is

timing_is : (c : In-Some) → c.loop-self.self-inside.setting.timing ≡ c.args.self.now.timing
timing_is c = ap (λ (s : Setting). s.timing) c.loop-self.invariant.3 ∙ ap (λ (s : Seen (Shortened Timed)). s.timing) c.self.view_is

input_is : (c : In-Some) → c.loop-self.self-inside.input.now ≡ c.args.self.now.input
input_is c = c.loop-self.invariant.2 ∙ ap (λ (s : Seen (Shortened Timed)). s.input) c.self.view_is

choice_is : (c : In-Some) → c.loop-self.self-inside.setting.choice ≡ c.args.self.now.choice
choice_is c = ap (λ (s : Setting). s.choice) c.loop-self.invariant.3 ∙ ap (λ (s : Seen (Shortened Timed)). s.choice) c.self.view_is

seen_is : (c : In-Some) (state : Shortened Timed)
    → view_in c.loop-self.self-inside.image.now c.loop-self.self-inside.input.now c.loop-self.self-inside.setting (λ _. state) ≡ record c.args.self.now { state = state }
seen_is c state =
    same_seen c.loop-self.self-inside.image.now c.args.self.now.image c.loop-self.self-inside.setting.index.now c.args.self.now.index c.loop-self.self-inside.setting.points.now c.args.self.now.points c.loop-self.self-inside.setting.timing c.args.self.now.timing
    c.loop-self.self-inside.input.now c.args.self.now.input c.loop-self.self-inside.setting.choice c.args.self.now.choice state (image_is c) (index_is c) (points_are c) (timing_is c) (input_is c) (choice_is c)

-- so what is run is what was to be run
as_before : (c : In-Some) → experiment_of c.args.self.now ≡ experiment_in c.loop-self.self-inside.image.now c.loop-self.self-inside.input.now c.loop-self.self-inside.setting
as_before c = ap experiment_of (sym (seen_is c c.args.self.now.state))

pub returns-clause-record : goal.returns-clause-record
returns-clause-record c =
    let now = c.loop-self.self-inside in
    recorded_of now.image.now now.input.now now.setting now.engine c.loop-self.invariant.0 (experiment_of c.args.self.now) (as_before c) c.in-Some.ending (sym c.ending-2.ensures ∙ c.in-Some.is)

pub returns-clause-shortened : goal.returns-clause-shortened
returns-clause-shortened c =
    let now = c.loop-self.self-inside in
    shortened_of now.image.now now.input.now now.setting now.engine c.loop-self.invariant.0 (experiment_of c.args.self.now) (as_before c)

pub returns-clause-last : goal.returns-clause-last
returns-clause-last c =
    let now = c.loop-self.self-inside in
    last_of now.image.now now.input.now now.setting now.engine c.loop-self.invariant.0 (experiment_of c.args.self.now) (as_before c) c.in-Some.ending (sym c.ending-2.ensures ∙ c.in-Some.is)

pub returns-clause-rest : goal.returns-clause-rest
returns-clause-rest c = seen_is c _
