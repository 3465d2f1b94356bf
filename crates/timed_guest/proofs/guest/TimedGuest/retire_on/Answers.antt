use Rattle.std.proofs.Common.{◌+◌, ◌<◌, List, ℕ, length, ap, sym, subst, ◌∙◌}
use Rattle.std.specs.Prelude.{IsTrue}
use Rattle.timing_model.specs.Timing.{IsUsual}
use Rattle.timing_model.specs.declared.timing.Timing.{Timing}
use Rattle.timing_steps.specs.State.{State, after_retirement, turn_in}
use Rattle.timed_guest.specs.Guest.{Timed}
use Rattle.timed_guest.specs.Retire.{past_of}
use Rattle.timed_guest.proofs.Held.{timed_retired, retired_orderly, others_are_low, has_room}
use Rattle.timed_guest.proofs.guest.TimedGuest.retire_on.Goals as goal

pub turn-requires-clause-others : goal.turn-requires-clause-others
turn-requires-clause-others c =
    let i = c.self.inside in
    let t : Timed = record { guest = i.guest; beside = i.state; index = i.lines } in
    others_are_low t c.args.self.now c.args.hart.0 c.args.net c.retire-own.new.self c.retire-own.result c.retire-own.new.started c.self.view_is c.self.invariant.1 c.requires.running c.retire-own.ensures.effect

pub turn-requires-clause-room : goal.turn-requires-clause-room
turn-requires-clause-room c =
    let i = c.self.inside in
    let t : Timed = record { guest = i.guest; beside = i.state; index = i.lines } in
    subst (λ (s : State). length s.seats.ready + length c.retire-own.new.started < 256) (sym (c.pass-has_passed.ensures.same c.if-has_passed.false))
    (has_room t c.args.self.now c.args.hart.0 c.args.net c.retire-own.new.self c.retire-own.result c.retire-own.new.started c.self.view_is c.self.invariant.1 c.requires.running c.retire-own.ensures.effect)

pub returns-then-has_passed-clause-alone : goal.returns-then-has_passed-clause-alone
returns-then-has_passed-clause-alone c _ =
    let i = c.self.inside in
    let t : Timed = record { guest = i.guest; beside = i.state; index = i.lines } in
    let passed = c.if-has_passed.true in
    timed_retired t c.args.hart.0 c.args.net c.args.self.now c.line_noted-line.result c.gives_up-gives_up.result c.retire-own.new.self c.retire-own.result c.retire-own.new.started c.pass-has_passed.new.state _ _
    c.self.view_is c.line_noted-line.ensures c.gives_up-gives_up.ensures c.retire-own.ensures.effect (c.pass-has_passed.ensures.state passed) (sym (c.pass-has_passed.ensures.fate passed)) (sym (c.pass-has_passed.ensures.others passed))

pub invariant_of-self : goal.invariant_of-self
invariant_of-self c =
    let i = c.self.inside in
    let t : Timed = record { guest = i.guest; beside = i.state; index = i.lines } in
    let passed = c.if-has_passed.true in (
      subst (λ (T : Timing). (IsTrue i.is_usual → IsUsual T) × (IsUsual T → IsTrue i.is_usual)) (sym (ap (λ (s : State). s.timing) (c.pass-has_passed.ensures.state passed))) c.self.invariant.0,
      retired_orderly t c.args.self.now c.args.hart.0 c.args.net _ _ _ c.self.view_is c.self.invariant.1 c.requires.running
          (timed_retired t c.args.hart.0 c.args.net c.args.self.now c.line_noted-line.result c.gives_up-gives_up.result c.retire-own.new.self c.retire-own.result c.retire-own.new.started c.pass-has_passed.new.state _ _
          c.self.view_is c.line_noted-line.ensures c.gives_up-gives_up.ensures c.retire-own.ensures.effect (c.pass-has_passed.ensures.state passed) (sym (c.pass-has_passed.ensures.fate passed)) (sym (c.pass-has_passed.ensures.others passed))),
    )

pub returns-clause-effect : goal.returns-clause-effect
returns-clause-effect c _ =
    let i = c.self.inside in
    let t : Timed = record { guest = i.guest; beside = i.state; index = i.lines } in
    let same = c.pass-has_passed.ensures.same c.if-has_passed.false in
    let others : List ℕ = c.retire-own.new.started in
    let past = past_of c.args.hart c.args.net c.line_noted-line.result c.gives_up-gives_up.result c.retire-own.result in
    timed_retired t c.args.hart.0 c.args.net c.args.self.now c.line_noted-line.result c.gives_up-gives_up.result c.retire-own.new.self c.retire-own.result c.retire-own.new.started c.turn.new.state c.turn.new.fate c.turn.new.started
    c.self.view_is c.line_noted-line.ensures c.gives_up-gives_up.ensures c.retire-own.ensures.effect
    (c.turn.ensures.state ∙ ap (λ (s : State). after_retirement s past others) same)
    (c.turn.ensures.fate ∙ ap (λ (s : State). (turn_in s past others).fate) same)
    (c.turn.ensures.others ∙ ap (λ (s : State). (turn_in s past others).others) same)

pub invariant_of-self-2 : goal.invariant_of-self-2
invariant_of-self-2 c =
    let i = c.self.inside in
    let t : Timed = record { guest = i.guest; beside = i.state; index = i.lines } in
    let same = c.pass-has_passed.ensures.same c.if-has_passed.false in
    let others : List ℕ = c.retire-own.new.started in
    let past = past_of c.args.hart c.args.net c.line_noted-line.result c.gives_up-gives_up.result c.retire-own.result in
    let state = c.turn.ensures.state ∙ ap (λ (s : State). after_retirement s past others) same in (
      subst (λ (T : Timing). (IsTrue i.is_usual → IsUsual T) × (IsUsual T → IsTrue i.is_usual)) (sym (ap (λ (s : State). s.timing) state)) c.self.invariant.0,
      retired_orderly t c.args.self.now c.args.hart.0 c.args.net _ c.turn.new.fate c.turn.new.started c.self.view_is c.self.invariant.1 c.requires.running
          (timed_retired t c.args.hart.0 c.args.net c.args.self.now c.line_noted-line.result c.gives_up-gives_up.result c.retire-own.new.self c.retire-own.result c.retire-own.new.started c.turn.new.state c.turn.new.fate c.turn.new.started
          c.self.view_is c.line_noted-line.ensures c.gives_up-gives_up.ensures c.retire-own.ensures.effect state
          (c.turn.ensures.fate ∙ ap (λ (s : State). (turn_in s past others).fate) same)
          (c.turn.ensures.others ∙ ap (λ (s : State). (turn_in s past others).others) same)),
    )
