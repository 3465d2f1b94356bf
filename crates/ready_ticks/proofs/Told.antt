-- What is noted of each hart tells its ticks in line, from move to move.
use Rattle.std.proofs.Common.{◌≡◌, ◌≤◌, ℕ, suc, ◌+◌, ◌-◌, Bool, true, false, ◌||◌, if◌then◌else◌, List, [], ◌++◌, refl, sym, ap, ◌∙◌, subst, Option, Some, None, is_some, arith}
use Rattle.machines.specs.Places.{is_among, change_each, AllApart}
use Rattle.machines.proofs.Maps.{change_each_at}
use Rattle.timing_laws.proofs.Apart.{among-append, apart_split}
use Rattle.ready_ticks.specs.declared.waits.Wait.{Wait}
use Rattle.ready_ticks.specs.Ready.{Course, waited}
use Rattle.ready_ticks.specs.Waits.{AreTold, Passes, entered_at, never, passed, started_at, stay, ticks_at, wait_of}

-- ---- one hart

-- what is noted of a hart tells at a moment whether it stands in line, and for how long it has
record Tells (now : ℕ) (w : Wait) (among : Bool) (total : ℕ) : Type 0 where
  in_line : is_some w.since ≡ among
  ticks : ticks_at now w ≡ total
  past : (since : ℕ) → w.since ≡ Some since → since ≤ now

no_stay : (o : Option ℕ) (now : ℕ) → is_some o ≡ false → stay o now ≡ 0
no_stay None now is = refl
no_stay (Some since) now is = absurd cc

-- a stay that goes on is as much longer as a moment is later
longer : (o : Option ℕ) (among : Bool) (m now : ℕ) → is_some o ≡ among → ((since : ℕ) → o ≡ Some since → since ≤ m) → m ≤ now
    → stay o now ≡ stay o m + (if among then now - m else 0)
longer None true m now is past later = absurd cc
longer None false m now is past later = refl
longer (Some since) false m now is past later = absurd cc
longer (Some since) true m now is past later = let before = past since refl in omega (arith, before, later)

pub tells_next : (c : Course) (n : ℕ) (waits : List Wait) → AreTold c n waits → c.moment n ≤ c.moment (suc n) → (hart : ℕ) → ticks_at (c.moment (suc n)) (wait_of waits hart) ≡ waited c hart (suc n)
tells_next c n waits told later hart =
    let w : Wait = wait_of waits hart in
    let more = longer w.since (is_among hart (c.line n)) (c.moment n) (c.moment (suc n)) (told.in_line hart) (told.past hart) later in
    let so_far = told.ticks hart in
    omega (arith, more, so_far)

abbrev after : ℕ → Bool → Bool → Wait → Wait
after now starts enters w = if starts then started_at now (if enters then entered_at now w else w) else (if enters then entered_at now w else w)

-- as a hart enters the line, if it does, and starts, if it does
entered : (now : ℕ) (w : Wait) (old : Bool) (ticks : ℕ) (enters : Bool) → Tells now w old ticks → (old ≡ true → enters ≡ false) → Tells now (if enters then entered_at now w else w) (old || enters) ticks
entered now w true ticks true t apart = absurd (let no : true ≡ false = apart refl in cc)
entered now w false ticks true t apart = record {
  in_line = refl;
  ticks = let none = no_stay w.since now t.in_line in let is = t.ticks in omega (arith, none, is);
  past = λ since is. let some : Some now ≡ Some since = is in let same : now ≡ since = cc in omega (arith, same);
}
entered now w true ticks false t apart = t
entered now w false ticks false t apart = t

started : (now : ℕ) (w : Wait) (all : Bool) (ticks : ℕ) (starts new : Bool) → Tells now w all ticks → all ≡ (starts || new) → (starts ≡ true → new ≡ false) → Tells now (if starts then started_at now w else w) new ticks
started now w all ticks true new t is apart = record {
  in_line = sym (apart refl);
  ticks = let so_far = t.ticks in omega (arith, so_far);
  past = λ since none. absurd (let no : ◌≡◌ {A = Option ℕ} None (Some since) = none in cc);
}
started now w all ticks false new t is apart = subst (λ (b : Bool). Tells now w b ticks) is t

-- ---- all harts

module _ (c : Course) (n : ℕ) (waits : List Wait) (told : AreTold c n waits) (later : c.moment n ≤ c.moment (suc n)) (entering starting : List ℕ) (moves : c.line n ++ entering ≡ starting ++ c.line (suc n)) (apart : AllApart (c.line n ++ entering)) where
  abbrev now : ℕ
  now = c.moment (suc n)

  at : (k : ℕ) → wait_of (passed now entering starting waits) k ≡ after now (is_among k starting) (is_among k entering) (wait_of waits k)
  at k =
      change_each_at never starting (λ _. started_at now) k (change_each never entering (λ _. entered_at now) waits) (apart_split starting (c.line (suc n)) (subst AllApart moves apart)).first
      ∙ ap (λ (w : Wait). if is_among k starting then started_at now w else w) (change_each_at never entering (λ _. entered_at now) k waits (apart_split (c.line n) entering apart).second)

  tells : (k : ℕ) → Tells now (wait_of waits k) (is_among k (c.line n)) (waited c k (suc n))
  tells k = record {
    in_line = told.in_line k;
    ticks = tells_next c n waits told later k;
    past = λ since is. let before = told.past k since is in omega (arith, before, later);
  }

  same_harts : (k : ℕ) → (is_among k (c.line n) || is_among k entering) ≡ (is_among k starting || is_among k (c.line (suc n)))
  same_harts k = sym (among-append k (c.line n) entering) ∙ ap (is_among k) moves ∙ among-append k starting (c.line (suc n))

  tells_after : (k : ℕ) → Tells now (wait_of (passed now entering starting waits) k) (is_among k (c.line (suc n))) (waited c k (suc n))
  tells_after k =
      subst (λ (w : Wait). Tells now w (is_among k (c.line (suc n))) (waited c k (suc n))) (sym (at k))
      (started now (if is_among k entering then entered_at now (wait_of waits k) else wait_of waits k) _ (waited c k (suc n)) (is_among k starting) (is_among k (c.line (suc n)))
      (entered now (wait_of waits k) (is_among k (c.line n)) (waited c k (suc n)) (is_among k entering) (tells k) ((apart_split (c.line n) entering apart).disjoint k))
      (same_harts k) ((apart_split starting (c.line (suc n)) (subst AllApart moves apart)).disjoint k))

  told_after : AreTold c (suc n) (passed now entering starting waits)
  told_after = record {
    in_line = λ k. (tells_after k).in_line;
    ticks = λ k. (tells_after k).ticks;
    past = λ k. (tells_after k).past;
  }

pub pass_told : (c : Course) (n now : ℕ) (waits : List Wait) (entering starting : List ℕ) → AreTold c n waits → Passes c n now entering starting → AreTold c (suc n) (passed now entering starting waits)
pass_told c n now waits entering starting told p =
    subst (λ (m : ℕ). AreTold c (suc n) (passed m entering starting waits)) p.moment
    (told_after c n waits told (subst (λ (m : ℕ). c.moment n ≤ m) (sym p.moment) p.later) entering starting p.line p.apart)

pub first_told : (c : Course) (waits : List Wait) → ((k : ℕ) → wait_of waits k ≡ never) → c.line 0 ≡ [] → AreTold c 0 waits
first_told c waits none nobody = record {
  in_line = λ k. ap (λ (w : Wait). is_some w.since) (none k) ∙ sym (ap (is_among k) nobody);
  ticks = λ k. ap (ticks_at (c.moment 0)) (none k);
  past = λ k since is. absurd (let no : ◌≡◌ {A = Option ℕ} None (Some since) = sym (ap (λ (w : Wait). w.since) (none k)) ∙ is in cc);
}
