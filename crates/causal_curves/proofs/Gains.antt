-- The gain of the steps from a place on, and bars.
use Rattle.std.proofs.Common.{◌≡◌, ℕ, suc, ◌/◌, ◌<◌, Bool, true, false, ◌==◌, List, ◌∷◌, length, drop, take, get_or, min, replicate, Option, Some, None, ℤ, pos, negsuc, nat_abs, rules, refl, sym, ap, ◌∙◌, arith, drop-cons, if◌then◌else◌}
use Rattle.std.specs.Int.Signed.{lt_z}
use Rattle.std.proofs.lemmas.Bool.{ltb-true}
use Rattle.std.proofs.lemmas.List.{drop_all, take-replicate}
use Rattle.causal_curves.specs.Curves.{greater, gain_of}
use Rattle.causal_curves.specs.Texts.{bar}
use Rattle.causal_curves.specs.declared.curve.CurveStep.{CurveStep}

pub gain_at_end : (steps : List CurveStep) → None ≡ gain_of (drop (length steps) steps)
unfolding gain_of
gain_at_end steps = sym (ap gain_of (drop_all (length steps) steps (omega arith)))

behind : (steps : List CurveStep) (j i : ℕ) (d : CurveStep) → suc j ≡ i → j < length steps → drop j steps ≡ get_or steps j d ∷ drop i steps
behind steps j i d next lt = drop-cons steps j d lt ∙ ap (λ (k : ℕ). get_or steps j d ∷ drop k steps) next

-- one step, by whether it has speedup 0
one : (step : CurveStep) (steps : List CurveStep) (c : Bool) → (step.speedup == 0) ≡ c → gain_of (step ∷ steps) ≡ (if c then gain_of steps else greater (gain_of steps) step.value)
unfolding gain_of
one step steps c e = ap (λ (b : Bool). if b then gain_of steps else greater (gain_of steps) step.value) e

not_zero : (n : ℕ) → (n ≡ 0 → ⊥) → (n == 0) ≡ false
not_zero n never = by (n == 0) refl
  where
    by : (c : Bool) → (n == 0) ≡ c → c ≡ false
    by true e = let same : n ≡ 0 = search (rules, e) in absurd (never same)
    by false e = refl

pub gain_counts : (steps : List CurveStep) (j i : ℕ) (d : CurveStep) (gain new : Option ℤ) → suc j ≡ i → j < length steps → ((get_or steps j d).speedup ≡ 0 → ⊥) → new ≡ greater gain (get_or steps j d).value → gain ≡ gain_of (drop i steps) → new ≡ gain_of (drop j steps)
gain_counts steps j i d gain new next lt never more so_far =
    let x : CurveStep = get_or steps j d in
    more ∙ ap (λ (g : Option ℤ). greater g x.value) so_far ∙ sym (ap gain_of (behind steps j i d next lt) ∙ one x (drop i steps) false (not_zero x.speedup never))

pub gain_stays : (steps : List CurveStep) (j i : ℕ) (d : CurveStep) (gain : Option ℤ) → suc j ≡ i → j < length steps → (get_or steps j d).speedup ≡ 0 → gain ≡ gain_of (drop i steps) → gain ≡ gain_of (drop j steps)
gain_stays steps j i d gain next lt zero so_far =
    so_far ∙ sym (ap gain_of (behind steps j i d next lt) ∙ one (get_or steps j d) (drop i steps) true (ap (λ (n : ℕ). n == 0) zero))

-- ---- bars

marks : (n m : ℕ) (size : ℕ) → n ≡ min size 40 → take n (replicate 40 m) ≡ replicate (min size 40) m
marks n m size e = take-replicate n 40 m (omega (arith, e)) ∙ ap (λ (k : ℕ). replicate k m) e

pub loss_bar : (value : Option ℤ) (v : ℤ) (n size : ℕ) → value ≡ Some v → lt_z v (pos 0) ≡ true → size ≡ nat_abs v → n ≡ min (size / 250) 40 → take n (replicate 40 45) ≡ bar value
loss_bar value (pos k) n size is below e f = absurd (omega (arith, ltb-true k 0 below))
loss_bar value (negsuc k) n size is below e f = marks n 45 (size / 250) f ∙ ap (λ (s : ℕ). replicate (min (s / 250) 40) 45) e ∙ sym (ap bar is)

pub gain_bar : (value : Option ℤ) (v : ℤ) (n size : ℕ) → value ≡ Some v → lt_z v (pos 0) ≡ false → size ≡ nat_abs v → n ≡ min (size / 250) 40 → take n (replicate 40 35) ≡ bar value
gain_bar value (pos k) n size is above e f = marks n 35 (size / 250) f ∙ ap (λ (s : ℕ). replicate (min (s / 250) 40) 35) e ∙ sym (ap bar is)
gain_bar value (negsuc k) n size is above e f = let no : true ≡ false = above in absurd cc
