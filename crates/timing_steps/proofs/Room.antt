-- Harts that stand in line are fewer than all harts.
use Rattle.std.proofs.Common.{◌≡◌, ℕ, ◌+◌, ◌<◌, ◌≤◌, ◌||◌, ◌==◌, Bool, true, false, if◌then◌else◌, eqb, List, [], ◌∷◌, ◌++◌, length, refl, sym, ap, ◌∙◌, ◌⊎◌, inl, inr, ⊎_elim, eqb-true, arith, length-append}
use Rattle.std.specs.List.{list_any, AllByRecursion, IsDistinct}
use Rattle.std.proofs.lemmas.Bool.{cases_Bool}
use Rattle.std.proofs.lemmas.Map.Steps.{length-le_from_distinct_below}
use Rattle.machines.specs.Places.{is_among, AllApart}
use Rattle.machines.specs.Guest.{Experiment, Guest, IsLawful, is_timed, goes_on}
use Rattle.timing_laws.specs.Cores.{IsFresh, IsNumbered}
use Rattle.timing_laws.proofs.Apart.{apart_join, AreApart, among-append}
use Rattle.timing_steps.specs.State.{LineHasRoom}

equal_by : (h x : ℕ) (xs : List ℕ) (b : Bool) → (h == x) ≡ b → (if b then true else is_among h xs) ≡ false → ((h == x) ≡ false) × (is_among h xs ≡ false)
equal_by h x xs true e out = absurd (let no : true ≡ false = out in cc)
equal_by h x xs false e out = (e, out)

none_equal : (h : ℕ) (hs : List ℕ) → is_among h hs ≡ false → AllByRecursion (λ q. eqb h q ≡ false) hs
none_equal h [] out = tt
none_equal h (x ∷ xs) out = let both = equal_by h x xs (h == x) refl out in (both.0, none_equal h xs both.1)

distinct : (xs : List ℕ) → AllApart xs → IsDistinct eqb xs
unfolding IsDistinct
distinct [] apart = tt
distinct (x ∷ xs) apart = (none_equal x xs apart.0, distinct xs apart.1)

any_by : (b p q : Bool) → p ≡ q → (b || p) ≡ (if b then true else q)
any_by true p q e = refl
any_by false p q e = e

any_among : (q : ℕ) (xs : List ℕ) → list_any (eqb q) xs ≡ is_among q xs
any_among q [] = refl
any_among q (x ∷ xs) = any_by (q == x) (list_any (eqb q) xs) (is_among q xs) (any_among q xs)

pub apart_fit : (xs : List ℕ) (limit : ℕ) → AllApart xs → ((q : ℕ) → is_among q xs ≡ true → q < limit) → length xs ≤ limit
apart_fit xs limit apart low = length-le_from_distinct_below xs limit (distinct xs apart) (λ q here. low q (sym (any_among q xs) ∙ here))

others_apart : (b : Bool) (h : ℕ) (others : List ℕ) → AllApart (if b then h ∷ others else others) → AllApart others
others_apart true h others apart = apart.1
others_apart false h others apart = apart

not_true : (b : Bool) → (b ≡ true → ⊥) → b ≡ false
not_true true never = absurd (never refl)
not_true false never = refl

among_either : (p q : Bool) → (p || q) ≡ true → (p ≡ true) ⊎ (q ≡ true)
among_either true q e = inl refl
among_either false q e = inr e

runs_timed : (s r : Bool) → r ≡ true → (s || r) ≡ true
runs_timed true r e = refl
runs_timed false r e = e

module _ {G : Type 0} (x : Experiment G) (Good : G → Type 0) (limit : ℕ) where
  pub line_room : IsLawful x Good → IsFresh x.guest Good → IsNumbered x.guest Good limit → LineHasRoom x.guest Good limit
  line_room law fresh numbered = λ g ready h v good apart timed runs out low.
      let others : List ℕ = (x.guest.retire g h v).others in
      let free : (k : ℕ) → is_timed x.guest g k ≡ true → is_among k others ≡ false =
      λ k is. not_true (is_among k others) (λ here. let no : true ≡ false = sym is ∙ fresh g h v k good runs here in cc) in
      let runs_now : is_timed x.guest g h ≡ true = runs_timed (x.guest.is_sleeping g h) (x.guest.is_running g h) runs in
      let joined : AllApart (ready ++ others) = apart_join ready others (record {
        first = apart;
        second = others_apart (goes_on (x.guest.retire g h v).fate) h others (law.apart g h v good runs);
        disjoint = λ k here. free k (timed k here);
      }) in
      let out_both : is_among h (ready ++ others) ≡ false = among-append h ready others ∙ rw (out, free h runs_now) refl in
      let below : (q : ℕ) → is_among q (ready ++ others) ≡ true → q < limit =
      λ q here. ⊎_elim
      (λ (e : is_among q ready ≡ true). numbered.low g q good (timed q e))
      (λ (e : is_among q others ≡ true). low q e)
      (among_either (is_among q ready) (is_among q others) (sym (among-append q ready others) ∙ here)) in
      let all_below : (q : ℕ) → is_among q (h ∷ (ready ++ others)) ≡ true → q < limit =
      λ q here. ⊎_elim
      (λ (e : (q == h) ≡ true). let same : q ≡ h = eqb-true q h e in let lt : h < limit = numbered.low g h good runs_now in omega (arith, same, lt))
      (λ (e : (q == h) ≡ false). below q (rw e at here))
      (cases_Bool (q == h)) in
      let fit : length (h ∷ (ready ++ others)) ≤ limit = apart_fit (h ∷ (ready ++ others)) limit (out_both, joined) all_below in
      let len : length (ready ++ others) ≡ length ready + length others = length-append ready others in
      omega (arith, fit, len)
