use Rattle.std.proofs.Common.{◌∙◌, ℕ, ◌+◌, ◌≤◌, List, length, nat_le, ap, sym, arith, subst}
use Rattle.machines.specs.declared.Fate.TheVariants.{Goes}
use Rattle.timed_guest.specs.Guest.{Timed}
use Rattle.timed_guest.specs.Retire.{retirement}
use Rattle.run_engine.specs.declared.choice.Setting.{Setting}
use Rattle.run_engine.specs.declared.engine.Engine.{Engine}
use Rattle.run_engine.specs.Begin.{many}
use Rattle.run_engine.specs.Far.{IsFarRetired, HasPassed}
use Rattle.run_engine.proofs.Many.{many_few}
use Rattle.run_engine.proofs.Once.{GoesAlone, Retires, alone_is, alone_far, alone_made, alone_passed, can_settle, settled_far}
use Rattle.run_engine.proofs.Quiet.{none_ends}
use Rattle.run_engine.proofs.engine.Engine.pass_once.Goals as goal

pub settle-requires : goal.settle-requires
settle-requires c =
    let s : Engine = c.args.self.now in
    let setting : Setting = c.args.setting.now in
    let h : ℕ = c.args.turn.hart.0 in
    let due : ℕ = c.args.turn.due in
    let after : Timed = c.retire_on-is_alone.new.self in
    let others : List ℕ = c.retire_on-is_alone.new.started in
    let none = c.retire_on-is_alone.ensures.none c.if-is_alone.true in
    let r : Retires setting s h due after Goes others = record {
      valid = c.requires.valid;
      steady = c.requires.steady;
      turn = c.requires.turn;
      first = c.requires.first;
      running = c.requires.running;
      point = c.requires.point;
      retires = ap (λ (hs : List ℕ). retirement after Goes hs) none ∙ c.retire_on-is_alone.ensures.alone c.if-is_alone.true;
    } in
    can_settle setting s h due after Goes others c.clear-2.new.self r c.clear-2.ensures

pub settle-requires-2 : goal.settle-requires-2
settle-requires-2 c =
    let s : Engine = c.args.self.now in
    let setting : Setting = c.args.setting.now in
    let h : ℕ = c.args.turn.hart.0 in
    let due : ℕ = c.args.turn.due in
    let after : Timed = c.retire_on-is_alone.new.self in
    let others : List ℕ = c.retire_on-is_alone.new.started in
    let r : Retires setting s h due after c.retire_on-is_alone.new.fate others = record {
      valid = c.requires.valid;
      steady = c.requires.steady;
      turn = c.requires.turn;
      first = c.requires.first;
      running = c.requires.running;
      point = c.requires.point;
      retires = c.retire_on-is_alone.ensures.effect c.if-is_alone.false;
    } in
    can_settle setting s h due after c.retire_on-is_alone.new.fate others c.clear-2.new.self r c.clear-2.ensures

pub go_on-requires-clause-made : goal.go_on-requires-clause-made
go_on-requires-clause-made c =
    let s : Engine = c.args.self.now in
    let setting : Setting = c.args.setting.now in
    let h : ℕ = c.args.turn.hart.0 in
    let due : ℕ = c.args.turn.due in
    let after : Timed = c.retire_on-is_alone.new.self in
    let others : List ℕ = c.retire_on-is_alone.new.started in
    let alone = c.retire_on-is_alone.ensures.alone c.if-is_alone.true in
    let none = c.retire_on-is_alone.ensures.none c.if-is_alone.true in
    let lasts = none_ends (nat_le setting.choice.output_limit (length after.guest.output)) (nat_le setting.choice.visit_limit (length s.visits.kept)) (s.retired + 1) setting.choice.budget (sym c.ends_with.ensures ∙ c.if-ends_with.false) in
    let can : GoesAlone setting s h due after = record {
      valid = c.requires.valid;
      steady = c.requires.steady;
      machine = c.requires.machine;
      turn = c.requires.turn;
      first = c.requires.first;
      running = c.requires.running;
      point = c.requires.point;
      retires = alone;
      output = lasts.0;
      visits = lasts.1;
      budget = lasts.2;
    } in
    alone_made setting s h due after can

pub go_on-requires-clause-few : goal.go_on-requires-clause-few
go_on-requires-clause-few c =
    let few : many c.args.self.now.schedule ≤ length c.args.self.now.schedule = many_few c.args.self.now.schedule in
    omega (arith, few, c.requires.steady.room, c.requires.steady.few, c.requires.steady.retired, c.requires.steady.wakes)

pub returns-then-is_alone-clause-quiet : goal.returns-then-is_alone-clause-quiet
returns-then-is_alone-clause-quiet c was =
    let s : Engine = c.args.self.now in
    let setting : Setting = c.args.setting.now in
    let h : ℕ = c.args.turn.hart.0 in
    let due : ℕ = c.args.turn.due in
    let after : Timed = c.retire_on-is_alone.new.self in
    let others : List ℕ = c.retire_on-is_alone.new.started in
    let alone = c.retire_on-is_alone.ensures.alone c.if-is_alone.true in
    let none = c.retire_on-is_alone.ensures.none c.if-is_alone.true in
    let lasts = none_ends (nat_le setting.choice.output_limit (length after.guest.output)) (nat_le setting.choice.visit_limit (length s.visits.kept)) (s.retired + 1) setting.choice.budget (sym c.ends_with.ensures ∙ c.if-ends_with.false) in
    let can : GoesAlone setting s h due after = record {
      valid = c.requires.valid;
      steady = c.requires.steady;
      machine = c.requires.machine;
      turn = c.requires.turn;
      first = c.requires.first;
      running = c.requires.running;
      point = c.requires.point;
      retires = alone;
      output = lasts.0;
      visits = lasts.1;
      budget = lasts.2;
    } in
    subst (λ (e : Engine). HasPassed setting s e)
    (alone_is setting s h due after can others c.go_on.new.self.selected c.go_on.new.self.schedule c.go_on.new.self.starts c.go_on.ensures.due none c.go_on.ensures.selected c.go_on.ensures.starts ∙ sym c.go_on.ensures.rest)
    (alone_passed setting s h due after can (c.go_on.ensures.plain was) (c.go_on.ensures.soon was))

pub returns-then-is_alone-clause-retired : goal.returns-then-is_alone-clause-retired
returns-then-is_alone-clause-retired c was =
    let s : Engine = c.args.self.now in
    let setting : Setting = c.args.setting.now in
    let h : ℕ = c.args.turn.hart.0 in
    let due : ℕ = c.args.turn.due in
    let after : Timed = c.retire_on-is_alone.new.self in
    let others : List ℕ = c.retire_on-is_alone.new.started in
    let alone = c.retire_on-is_alone.ensures.alone c.if-is_alone.true in
    let none = c.retire_on-is_alone.ensures.none c.if-is_alone.true in
    let lasts = none_ends (nat_le setting.choice.output_limit (length after.guest.output)) (nat_le setting.choice.visit_limit (length s.visits.kept)) (s.retired + 1) setting.choice.budget (sym c.ends_with.ensures ∙ c.if-ends_with.false) in
    let can : GoesAlone setting s h due after = record {
      valid = c.requires.valid;
      steady = c.requires.steady;
      machine = c.requires.machine;
      turn = c.requires.turn;
      first = c.requires.first;
      running = c.requires.running;
      point = c.requires.point;
      retires = alone;
      output = lasts.0;
      visits = lasts.1;
      budget = lasts.2;
    } in
    subst (λ (e : Engine). IsFarRetired setting s h Goes c.args.delay e)
    (alone_is setting s h due after can others c.go_on.new.self.selected c.go_on.new.self.schedule c.go_on.new.self.starts c.go_on.ensures.due none c.go_on.ensures.selected c.go_on.ensures.starts ∙ sym c.go_on.ensures.rest)
    (alone_far setting s h due after can c.args.delay)

pub returns-then-ends_with-clause-retired : goal.returns-then-ends_with-clause-retired
returns-then-ends_with-clause-retired c _ =
    let s : Engine = c.args.self.now in
    let setting : Setting = c.args.setting.now in
    let h : ℕ = c.args.turn.hart.0 in
    let due : ℕ = c.args.turn.due in
    let after : Timed = c.retire_on-is_alone.new.self in
    let others : List ℕ = c.retire_on-is_alone.new.started in
    let none = c.retire_on-is_alone.ensures.none c.if-is_alone.true in
    let r : Retires setting s h due after Goes others = record {
      valid = c.requires.valid;
      steady = c.requires.steady;
      turn = c.requires.turn;
      first = c.requires.first;
      running = c.requires.running;
      point = c.requires.point;
      retires = ap (λ (hs : List ℕ). retirement after Goes hs) none ∙ c.retire_on-is_alone.ensures.alone c.if-is_alone.true;
    } in
    settled_far setting s h due after Goes others c.clear-2.new.self r c.clear-2.ensures c.args.delay c.settle.new.self c.settle.ensures

pub returns-clause-retired : goal.returns-clause-retired
returns-clause-retired c _ =
    let s : Engine = c.args.self.now in
    let setting : Setting = c.args.setting.now in
    let h : ℕ = c.args.turn.hart.0 in
    let due : ℕ = c.args.turn.due in
    let after : Timed = c.retire_on-is_alone.new.self in
    let others : List ℕ = c.retire_on-is_alone.new.started in
    let r : Retires setting s h due after c.retire_on-is_alone.new.fate others = record {
      valid = c.requires.valid;
      steady = c.requires.steady;
      turn = c.requires.turn;
      first = c.requires.first;
      running = c.requires.running;
      point = c.requires.point;
      retires = c.retire_on-is_alone.ensures.effect c.if-is_alone.false;
    } in
    settled_far setting s h due after c.retire_on-is_alone.new.fate others c.clear-2.new.self r c.clear-2.ensures c.args.delay c.settle-2.new.self c.settle-2.ensures
