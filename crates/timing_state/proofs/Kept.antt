-- A retirement on a machine that keeps notes and seats, and on one that keeps none.
use Rattle.std.proofs.Common.{◌≡◌, ℕ, Bool, true, false, List, Option, if◌then◌else◌, sym, ap, subst, ◌∙◌}
use Rattle.machines.specs.declared.Fate.{Fate}
use Rattle.timing_laws.specs.Noted.{Note, notes_after}
use Rattle.timing_laws.specs.Cores.{Turned}
use Rattle.timing_steps.specs.declared.retirement.Retirement.{Retirement}
use Rattle.timing_steps.specs.State.{State, keeps, number_of, turn_on, turn_in, notes_in, after_retirement}

-- what a retirement came to
pub record IsStep (now new : State) (r : Retirement) (others : List ℕ) (fate : Fate) (out : List ℕ) : Type 0 where
  pub state : new ≡ after_retirement now r others
  pub turned_fate : fate ≡ (turn_in now r others).fate
  pub turned_others : out ≡ (turn_in now r others).others

module _ (s : State) (r : Retirement) (others : List ℕ) where
  abbrev unturned : Turned
  unturned = record { seats = s.seats; fate = r.fate; others = others }

  turn_is : (b : Bool) → keeps s.timing ≡ b → turn_in s r others ≡ (if b then turn_on s.timing.cores s.timing.slice r others s.seats else unturned)
  turn_is b e = ap (λ (k : Bool). let t : Turned = if k then turn_on s.timing.cores s.timing.slice r others s.seats else unturned in t) e

  notes_are : (b : Bool) → keeps s.timing ≡ b → notes_in s r others ≡ (if b then notes_after (number_of r.line) r.hart.0 others s.notes else s.notes)
  notes_are b e = ap (λ (k : Bool). if k then notes_after (number_of r.line) r.hart.0 others s.notes else s.notes) e

  step_by : (notes : List (Option Note)) (t : Turned) → notes ≡ notes_in s r others → t ≡ turn_in s r others
      → IsStep s (record s { notes = notes; seats = t.seats }) r others t.fate t.others
  step_by notes t same turn = record {
    state =
        ap (λ (ns : List (Option Note)). let q : State = record s { notes = ns; seats = t.seats } in q) same
        ∙ ap (λ (u : Turned). let q : State = record s { notes = notes_in s r others; seats = u.seats } in q) turn;
    turned_fate = ap (λ (u : Turned). u.fate) turn;
    turned_others = ap (λ (u : Turned). u.others) turn;
  }

  pub kept : (now : State) → s ≡ now → keeps s.timing ≡ true → (notes : List (Option Note)) (t : Turned)
      → notes ≡ notes_after (number_of r.line) r.hart.0 others s.notes → t ≡ turn_on s.timing.cores s.timing.slice r others s.seats
      → IsStep now (record s { notes = notes; seats = t.seats }) r others t.fate t.others
  kept now is keep notes t same turn =
      subst (λ (q : State). IsStep q (record s { notes = notes; seats = t.seats }) r others t.fate t.others) is
      (step_by notes t (same ∙ sym (notes_are true keep)) (turn ∙ sym (turn_is true keep)))

  pub unkept : (now : State) → s ≡ now → keeps s.timing ≡ false → IsStep now now r others r.fate others
  unkept now is keep =
      subst (λ (q : State). IsStep q q r others r.fate others) is
      (step_by s.notes unturned (sym (notes_are false keep)) (sym (turn_is false keep)))
