-- The steps or the curves from a place on, one more at a time.
use Rattle.std.proofs.Common.{◌≡◌, ℕ, suc, ◌+◌, ◌-◌, ◌<◌, Bool, true, false, ◌&&◌, nat_lt, List, ◌∷◌, length, drop, get_or, Option, Some, None, ℤ, refl, sym, ap, ◌∙◌, arith, drop-cons, if◌then◌else◌}
use Rattle.std.specs.List.{list_all}
use Rattle.std.specs.Option.{option_or}
use Rattle.std.proofs.lemmas.Bool.{ltb-true, ltb-false}
use Rattle.std.proofs.lemmas.List.{drop_all, length-drop}
use Rattle.causal_curves.specs.Curves.{greater}
use Rattle.causal_curves.specs.declared.curve.Curve.{Curve}
use Rattle.causal_curves.specs.declared.curve.CurveStep.{CurveStep}
use Rattle.page_values.specs.Ranks.{greatest_gain}
use Rattle.page_values.specs.Shapes.{first_value, flat_above, gap, keeps, variation_of}

behind : {X : Type 0} (xs : List X) (j i : ℕ) (d : X) → suc j ≡ i → j < length xs → drop j xs ≡ get_or xs j d ∷ drop i xs
behind xs j i d next lt = drop-cons xs j d lt ∙ ap (λ (k : ℕ). get_or xs j d ∷ drop k xs) next

-- ---- up and down

pub first_at_end : (steps : List CurveStep) → None ≡ first_value (drop (length steps) steps)
unfolding first_value
first_at_end steps = sym (ap first_value (drop_all (length steps) steps (omega arith)))

pub variation_at_end : (steps : List CurveStep) → 0 ≡ variation_of (drop (length steps) steps)
unfolding variation_of
variation_at_end steps = sym (ap variation_of (drop_all (length steps) steps (omega arith)))

pub first_more : (steps : List CurveStep) (j i : ℕ) (d : CurveStep) (next new : Option ℤ) → suc j ≡ i → j < length steps → new ≡ option_or (get_or steps j d).value next → next ≡ first_value (drop i steps) → new ≡ first_value (drop j steps)
unfolding first_value
first_more steps j i d next new at lt more so_far =
    more ∙ ap (option_or (get_or steps j d).value) so_far ∙ sym (ap first_value (behind steps j i d at lt))

pub variation_more : (steps : List CurveStep) (j i : ℕ) (d : CurveStep) (next : Option ℤ) (sum new : ℕ) → suc j ≡ i → j < length steps → new ≡ sum + gap (get_or steps j d).value next → next ≡ first_value (drop i steps) → sum ≡ variation_of (drop i steps) → new ≡ variation_of (drop j steps)
unfolding variation_of
variation_more steps j i d next sum new at lt more so_far total =
    let x = get_or steps j d in
    let one : new ≡ gap x.value next + sum = omega (arith, more) in
    one ∙ ap (λ (v : Option ℤ). gap x.value v + sum) so_far
    ∙ ap (λ (n : ℕ). gap x.value (first_value (drop i steps)) + n) total
    ∙ sym (ap variation_of (behind steps j i d at lt))

-- ---- flat

pub flat_at_end : (gain : ℕ) (steps : List CurveStep) → None ≡ flat_above gain (drop (length steps) steps)
unfolding flat_above
flat_at_end gain steps = sym (ap (flat_above gain) (drop_all (length steps) steps (omega arith)))

pub all_at_end : (gain : ℕ) (steps : List CurveStep) → true ≡ list_all (keeps gain) (drop (length steps) steps)
all_at_end gain steps = sym (ap (list_all (keeps gain)) (drop_all (length steps) steps (omega arith)))

pub all_more : (gain : ℕ) (steps : List CurveStep) (j i : ℕ) (d : CurveStep) (all new : Bool) → suc j ≡ i → j < length steps → new ≡ (keeps gain (get_or steps j d) && all) → all ≡ list_all (keeps gain) (drop i steps) → new ≡ list_all (keeps gain) (drop j steps)
all_more gain steps j i d all new at lt more so_far =
    more ∙ ap (λ (b : Bool). keeps gain (get_or steps j d) && b) so_far ∙ sym (ap (list_all (keeps gain)) (behind steps j i d at lt))

-- steps are left behind a place if it is not the last
lt_left : (n i : ℕ) → nat_lt i n ≡ nat_lt 0 (n - i)
lt_left n i = by (nat_lt i n) refl (nat_lt 0 (n - i)) refl
  where
    by : (b : Bool) → nat_lt i n ≡ b → (c : Bool) → nat_lt 0 (n - i) ≡ c → b ≡ c
    by true p true q = refl
    by false p false q = refl
    by true p false q = absurd (omega (arith, ltb-true i n p, ltb-false 0 (n - i) q))
    by false p true q = absurd (omega (arith, ltb-false i n p, ltb-true 0 (n - i) q))

pub flat_more : (gain : ℕ) (steps : List CurveStep) (j i : ℕ) (d : CurveStep) (some all : Bool) (from new : Option ℕ) → suc j ≡ i → j < length steps
    → some ≡ nat_lt i (length steps) → all ≡ list_all (keeps gain) (drop j steps) → new ≡ (if some && all then Some (get_or steps j d).speedup else from) → from ≡ flat_above gain (drop i steps)
    → new ≡ flat_above gain (drop j steps)
unfolding flat_above
flat_more gain steps j i d some all from new at lt left keep is so_far =
    let x = get_or steps j d in
    let rest = drop i steps in
    let cut = behind steps j i d at lt in
    is
    ∙ ap (λ (b : Bool). if b && all then Some x.speedup else from) (left ∙ lt_left (length steps) i ∙ ap (nat_lt 0) (sym (length-drop i steps)))
    ∙ ap (λ (b : Bool). if nat_lt 0 (length rest) && b then Some x.speedup else from) (keep ∙ ap (list_all (keeps gain)) cut)
    ∙ ap (λ (f : Option ℕ). if nat_lt 0 (length rest) && list_all (keeps gain) (x ∷ rest) then Some x.speedup else f) so_far
    ∙ sym (ap (flat_above gain) cut)

-- ---- the greatest gain

pub gain_at_end : (curves : List Curve) → None ≡ greatest_gain (drop (length curves) curves)
unfolding greatest_gain
gain_at_end curves = sym (ap greatest_gain (drop_all (length curves) curves (omega arith)))

pub gain_more : (curves : List Curve) (j i : ℕ) (d : Curve) (gain new : Option ℤ) → suc j ≡ i → j < length curves → new ≡ greater gain (get_or curves j d).gain → gain ≡ greatest_gain (drop i curves) → new ≡ greatest_gain (drop j curves)
unfolding greatest_gain
gain_more curves j i d gain new at lt more so_far =
    more ∙ ap (λ (g : Option ℤ). greater g (get_or curves j d).gain) so_far ∙ sym (ap greatest_gain (behind curves j i d at lt))
