use Rattle.std.proofs.Common.{◌≡◌, ℕ, ◌∙◌, if◌then◌else◌, true, List, ap, subst}
use Rattle.machines.specs.Places.{is_among}
use Rattle.path_causes.specs.declared.cause.Cause.{Cause}
use Rattle.path_causes.specs.Causes.{cause_at, started_with}
use Rattle.critical_path.specs.Recording.{ticks_from}
use Rattle.critical_path.proofs.Begun.{all_turned, other_started, self_started}
use Rattle.critical_path.proofs.recording.record_retired.Goals as goal

pub go_on_or_leave-requires-clause-begun : goal.go_on_or_leave-requires-clause-begun
go_on_or_leave-requires-clause-begun c = λ k among. (c.requires.begun k (self_started c.args.retired.hart.0 c.args.retired.fate c.args.engine.now.started k among)).1

pub start_each-requires-clause-begun : goal.start_each-requires-clause-begun
start_each-requires-clause-begun c = λ k among.
    let begun = c.requires.begun k (other_started c.args.retired.hart.0 c.args.retired.fate c.args.engine.now.started k (subst (λ (hs : List ℕ). is_among k hs ≡ true) c.started.ensures among)) in
    (begun.0, begun.1.1)

pub returns : goal.returns
returns c = λ k.
    let e : ℕ = c.args.event in
    let two : List Cause = c.go_on_or_leave.new.causes in
    let ticks : ℕ → ℕ = ticks_from c.args.engine.now.schedule c.args.engine.now.time in
    all_turned ticks c.args.retired.hart.0 c.args.retired.fate c.args.engine.now.time e c.args.engine.now.started k (cause_at c.args.causes.now k) (cause_at two k) (cause_at c.start_each.new.causes k)
    (c.go_on_or_leave.ensures k)
    (c.start_each.ensures k ∙ ap (λ (hs : List ℕ). if is_among k hs then started_with (ticks k) e (cause_at two k) else cause_at two k) c.started.ensures)
