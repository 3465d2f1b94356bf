use Rattle.std.proofs.Common.{◌≡◌, ℕ, ◌∙◌, true, List, [], Option, None, length, ap, sym, subst, arith}
use Rattle.coz_types.specs.declared.ending.Ending.{Ending}
use Rattle.machines.specs.Places.{is_among}
use Rattle.run_engine.specs.declared.engine.Event.{Event}
use Rattle.run_engine.specs.Begin.{started_by}
use Rattle.run_engine.proofs.Law.{none_is}
use Rattle.counted_run.specs.Begun.{unless_ended, begun_by}
use Rattle.counted_run.proofs.Folding.{self_among, others_few}
use Rattle.counted_run.proofs.beginning.count_begun.Goals as goal

pub count-requires-clause-made : goal.count-requires-clause-made
count-requires-clause-made c =
    let h = c.in-Woke.turn.hart.0 in
    c.requires.made h (ap (λ (e : Event). is_among h (begun_by c.args.engine.now e)) c.in-Woke.is ∙ self_among h [])

-- what a retirement from which the run goes on has begun
started_is : (c : goal.After-count_started-arg-1) → begun_by c.args.engine.now c.args.event ≡ started_by c.in-Retired.retired.hart.0 c.in-Retired.retired.fate c.args.engine.now.started
started_is c =
    let started = started_by c.in-Retired.retired.hart.0 c.in-Retired.retired.fate c.args.engine.now.started in
    let on : c.args.engine.now.ending ≡ None = sym c.ending.ensures ∙ none_is c.ending.result c.is_none.result c.is_none.ensures c.if-is_none.true in
    ap (begun_by c.args.engine.now) c.in-Retired.is ∙ ap (λ (o : Option Ending). unless_ended o started) on

pub count_started-requires-clause-made : goal.count_started-requires-clause-made
count_started-requires-clause-made c = λ k among. c.requires.made k (subst (λ (hs : List ℕ). is_among k hs ≡ true) (sym (started_is c)) among)

pub count_started-requires-clause-room : goal.count_started-requires-clause-room
count_started-requires-clause-room c =
    let more = others_few c.in-Retired.retired.hart.0 c.in-Retired.retired.fate c.args.engine.now.started in
    let is = ap length (started_is c) in
    let room = c.requires.room in
    omega arith

pub count_started-requires-clause-few : goal.count_started-requires-clause-few
count_started-requires-clause-few c =
    let more = others_few c.in-Retired.retired.hart.0 c.in-Retired.retired.fate c.args.engine.now.started in
    let is = ap length (started_is c) in
    let few = c.requires.few in
    omega arith
