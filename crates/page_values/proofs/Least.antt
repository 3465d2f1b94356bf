-- The least value of the steps from a place on.
use Rattle.std.proofs.Common.{◌≡◌, ℕ, suc, ◌<◌, Bool, true, false, ◌==◌, List, ◌∷◌, length, drop, get_or, Option, None, ℤ, rules, refl, sym, ap, ◌∙◌, arith, drop-cons, if◌then◌else◌}
use Rattle.std.proofs.lemmas.List.{drop_all}
use Rattle.causal_curves.specs.declared.curve.CurveStep.{CurveStep}
use Rattle.page_values.specs.Harm.{lesser, worst_of}

pub worst_at_end : (steps : List CurveStep) → None ≡ worst_of (drop (length steps) steps)
unfolding worst_of
worst_at_end steps = sym (ap worst_of (drop_all (length steps) steps (omega arith)))

behind : (steps : List CurveStep) (j i : ℕ) (d : CurveStep) → suc j ≡ i → j < length steps → drop j steps ≡ get_or steps j d ∷ drop i steps
behind steps j i d next lt = drop-cons steps j d lt ∙ ap (λ (k : ℕ). get_or steps j d ∷ drop k steps) next

-- one step, by whether it has speedup 0
one : (step : CurveStep) (steps : List CurveStep) (c : Bool) → (step.speedup == 0) ≡ c → worst_of (step ∷ steps) ≡ (if c then worst_of steps else lesser (worst_of steps) step.value)
unfolding worst_of
one step steps c e = ap (λ (b : Bool). if b then worst_of steps else lesser (worst_of steps) step.value) e

not_zero : (n : ℕ) → (n ≡ 0 → ⊥) → (n == 0) ≡ false
not_zero n never = by (n == 0) refl
  where
    by : (c : Bool) → (n == 0) ≡ c → c ≡ false
    by true e = let same : n ≡ 0 = search (rules, e) in absurd (never same)
    by false e = refl

pub worst_counts : (steps : List CurveStep) (j i : ℕ) (d : CurveStep) (worst new : Option ℤ) → suc j ≡ i → j < length steps → ((get_or steps j d).speedup ≡ 0 → ⊥) → new ≡ lesser worst (get_or steps j d).value → worst ≡ worst_of (drop i steps) → new ≡ worst_of (drop j steps)
worst_counts steps j i d worst new next lt never more so_far =
    let x : CurveStep = get_or steps j d in
    more ∙ ap (λ (g : Option ℤ). lesser g x.value) so_far ∙ sym (ap worst_of (behind steps j i d next lt) ∙ one x (drop i steps) false (not_zero x.speedup never))

pub worst_stays : (steps : List CurveStep) (j i : ℕ) (d : CurveStep) (worst : Option ℤ) → suc j ≡ i → j < length steps → (get_or steps j d).speedup ≡ 0 → worst ≡ worst_of (drop i steps) → worst ≡ worst_of (drop j steps)
worst_stays steps j i d worst next lt zero so_far =
    so_far ∙ sym (ap worst_of (behind steps j i d next lt) ∙ one (get_or steps j d) (drop i steps) true (ap (λ (n : ℕ). n == 0) zero))
