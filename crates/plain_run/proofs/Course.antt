-- The course of a run: its moments, and how long harts stand in line.
use Rattle.std.proofs.Common.{◌≡◌, ℕ, zero, suc, ◌+◌, ◌-◌, ◌≤◌, Bool, true, false, if◌then◌else◌, List, [], ◌∷◌, refl, sym, ap, ◌∙◌, Some, arith, eq-eqb, add-suc, add-zero}
use Rattle.coz_types.specs.declared.ending.Ending.{Ending}
use Rattle.machines.specs.Guest.{Experiment, IsLawful, enough}
use Rattle.machines.specs.Places.{is_among}
use Rattle.machines.specs.Shortened.{Shortened, next_turn, move_by, move, shortened}
use Rattle.machines.proofs.Rising.{time_on}
use Rattle.timed_guest.specs.Guest.{Timed}
use Rattle.ready_ticks.specs.Ready.{waited}
use Rattle.plain_run.specs.PlainRun.{timed_course, ready_in}

more_below : (b : Bool) (waited now next : ℕ) → waited ≤ now → now ≤ next → waited + (if b then next - now else 0) ≤ next
more_below true waited now next below later = omega arith
more_below false waited now next below later = omega arith

none_more : (b : Bool) (n : ℕ) → n ≡ 0 → (if b then n else 0) ≡ 0
none_more true n is = is
none_more false n is = refl

-- nobody is among no harts
pub nobody_in : (line : List ℕ) → ((h : ℕ) → is_among h line ≡ false) → line ≡ []
nobody_in [] none = refl
nobody_in (h ∷ line) none = absurd (by (is_among h line) (none h))
  where
    by : (b : Bool) → is_among h (h ∷ line) ≡ false → ⊥
    by b is = let yes : is_among h (h ∷ line) ≡ true = rw (eq-eqb h h refl) refl in let no : true ≡ false = sym yes ∙ is in cc

module _ (x : Experiment Timed) (Good : Timed → Type 0) (law : IsLawful x Good) where
  -- no hart stands in line for longer than the run takes
  pub waited_below : (hart n : ℕ) → waited (timed_course x) hart n ≤ (shortened x n).time
  waited_below hart zero = omega arith
  waited_below hart (suc n) = more_below (is_among hart (shortened x n).guest.beside.seats.ready) _ (shortened x n).time _ (waited_below hart n) (time_on x Good law n)

module _ (x : Experiment Timed) (n : ℕ) (ending : Ending) (over : (shortened x n).ending ≡ Some ending) where
  stays : (s : Shortened Timed) → s.ending ≡ Some ending → move x s ≡ s
  unfolding move move_by
  stays s is = ap (λ o. move_by x o (next_turn s.dues) s) is

  next_is : (m : ℕ) → shortened x (suc m) ≡ move x (shortened x m)
  unfolding shortened
  next_is m = refl

  -- a run that is over stays as it is
  over_for : (k : ℕ) → shortened x (n + k) ≡ shortened x n
  over_for zero = ap (shortened x) (add-zero n)
  over_for (suc k) =
      ap (shortened x) (add-suc n k) ∙ next_is (n + k) ∙ ap (move x) (over_for k) ∙ stays (shortened x n) over

  same_for : (hart k : ℕ) → waited (timed_course x) hart (n + k) ≡ waited (timed_course x) hart n
  same_for hart zero = ap (waited (timed_course x) hart) (add-zero n)
  same_for hart (suc k) =
      let before = same_for hart k in
      let now : (shortened x (n + k)).time ≡ (shortened x n).time = ap (λ (s : Shortened Timed). s.time) (over_for k) in
      let next : (shortened x (suc (n + k))).time ≡ (shortened x n).time = ap (λ (m : ℕ). (shortened x m).time) (sym (add-suc n k)) ∙ ap (λ (s : Shortened Timed). s.time) (over_for (suc k)) in
      let none : (shortened x (suc (n + k))).time - (shortened x (n + k)).time ≡ 0 = omega (arith, now, next) in
      ap (waited (timed_course x) hart) (add-suc n k)
      ∙ ap (λ (m : ℕ). waited (timed_course x) hart (n + k) + m) (none_more (is_among hart (shortened x (n + k)).guest.beside.seats.ready) _ none)
      ∙ add-zero (waited (timed_course x) hart (n + k)) ∙ before

  pub waited_all : (hart : ℕ) → n ≤ enough x → waited (timed_course x) hart n ≡ ready_in x hart
  waited_all hart within =
      let k : ℕ = enough x - n in
      let all : n + k ≡ enough x = omega arith in
      sym (same_for hart k) ∙ ap (waited (timed_course x) hart) all

  pub all_over : n ≤ enough x → shortened x n ≡ shortened x (enough x)
  all_over within =
      let k : ℕ = enough x - n in
      let all : n + k ≡ enough x = omega arith in
      sym (over_for k) ∙ ap (shortened x) all
