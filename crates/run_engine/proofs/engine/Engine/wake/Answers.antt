use Rattle.std.proofs.Common.{◌≡◌, ℕ, ◌+◌, ◌≤◌, [], ◌∷◌, ◌++◌, List, length, ap, subst, sym, ◌∙◌, arith}
use Rattle.std.proofs.lemmas.List.{length-map}
use Rattle.hart_schedule.specs.Keys.{with_key, without_key}
use Rattle.timed_guest.specs.Guest.{Timed}
use Rattle.run_engine.specs.Advance.{IsWoken}
use Rattle.run_engine.specs.Begin.{many, IsIdle}
use Rattle.run_engine.specs.Run.{is_selected_in, selected_of, ticks_in}
use Rattle.run_engine.proofs.Many.{many_few}
use Rattle.run_engine.proofs.Begin.{one_at_most}
use Rattle.run_engine.proofs.Law.{woken_idle}
use Rattle.run_engine.proofs.Advance.{advance_woken}
use Rattle.run_engine.proofs.engine.Engine.wake.Goals as goal

pub begin_next-requires-clause-idle : goal.begin_next-requires-clause-idle
begin_next-requires-clause-idle c =
    let s = c.args.self.now in
    subst (λ (g : Timed). IsIdle g (without_key c.args.turn.hart.0 s.schedule) c.args.turn.hart.0) (sym c.wake.ensures)
    (woken_idle s.guest s.schedule c.args.turn.hart.0 c.args.turn.due c.requires.steady.orderly c.requires.asleep c.requires.steady.room c.requires.turn)

pub overflow_add-self-2 : goal.overflow_add-self-2
overflow_add-self-2 c =
    let s = c.args.self.now in
    let st = c.requires.steady in
    let starts = st.few in
    let few : many s.schedule ≤ length s.schedule = many_few s.schedule in
    let room : length s.schedule ≡ 256 = st.room in
    let one : length (selected_of c.args.setting.now c.wake.new.self (c.args.turn.hart.0 ∷ [])) ≤ 1 = one_at_most (is_selected_in c.args.setting.now c.wake.new.self) c.args.turn.hart.0 in
    let chosen : length c.begin_next.new.selected ≡ length (selected_of c.args.setting.now c.wake.new.self (c.args.turn.hart.0 ∷ [])) =
    ap length (c.begin_next.ensures.selected ∙ ap (λ (xs : List ℕ). xs ++ selected_of c.args.setting.now c.wake.new.self (c.args.turn.hart.0 ∷ [])) c.clear.ensures) in
    let same : length c.harts.result.now ≡ length c.begin_next.new.selected = sym (length-map c.harts.result.now (λ hart. hart.0)) ∙ ap length c.harts.ensures in
    omega (arith, starts, few, room, one, chosen, same, st.retired, st.wakes)

pub returns : goal.returns
returns c =
    let s = c.args.self.now in
    let h : ℕ = c.args.turn.hart.0 in
    let due : ℕ = c.args.turn.due in
    let same : length c.harts.result.now ≡ length c.begin_next.new.selected = sym (length-map c.harts.result.now (λ hart. hart.0)) ∙ ap length c.harts.ensures in
    let chosen : c.begin_next.new.selected ≡ selected_of c.args.setting.now c.wake.new.self (h ∷ []) =
    c.begin_next.ensures.selected ∙ ap (λ (xs : List ℕ). xs ++ selected_of c.args.setting.now c.wake.new.self (h ∷ [])) c.clear.ensures in
    subst
    (λ (g : Timed). IsWoken c.args.setting.now s h due (record s { guest = g; schedule = c.begin_next.new.schedule; selected = c.begin_next.new.selected; wakes = s.wakes + 1; starts = s.starts + length c.harts.result.now }))
    (sym c.wake.ensures)
    (advance_woken c.args.setting.now s h due c.begin_next.new.schedule c.begin_next.new.selected (s.starts + length c.harts.result.now) c.requires.steady c.requires.speedup c.requires.turn c.requires.first c.requires.asleep
    (c.begin_next.ensures.due ∙ ap (λ (g : Timed). with_key h (due + ticks_in c.args.setting.now g h) (without_key h s.schedule)) c.wake.ensures)
    (chosen ∙ ap (λ (g : Timed). selected_of c.args.setting.now g (h ∷ [])) c.wake.ensures)
    (ap (λ (n : ℕ). s.starts + n) same))
