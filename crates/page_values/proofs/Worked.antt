-- The shapes of curves, computed on examples.
use Rattle.std.proofs.Common.{◌≡◌, ℕ, List, [], ◌∷◌, Some, None, ℤ, pos, negsuc, true, false, refl}
use Rattle.causal_curves.specs.Curves.{gain_of}
use Rattle.causal_curves.specs.declared.curve.Curve.{Curve}
use Rattle.causal_curves.specs.declared.curve.CurveStep.{CurveStep}
use Rattle.page_values.specs.Harm.{worst_of}
use Rattle.page_values.specs.Ranks.{is_folded, means_before}
use Rattle.page_values.specs.Shapes.{flat_above, flat_from, first_value, is_rough, mean_of, range_of, variation_of}

step : ℕ → ℤ → CurveStep
step speedup value = record { speedup = speedup; value = Some value }

curve : List CurveStep → Curve
curve steps = record { point = 0; selected = []; gain = gain_of steps; steps = steps }

-- 0, 10, 25 and -15.01 per cent at the speedups 0, 25, 50 and 75
kinked : List CurveStep
kinked = step 0 (pos 0) ∷ step 25 (pos 1000) ∷ step 50 (pos 2500) ∷ step 75 (negsuc 1500) ∷ []

-- (10 + 25 - 15.01) / 3 per cent, rounded down
its_mean : mean_of kinked ≡ Some (pos 666)
unfolding step kinked
its_mean = refl

-- a mean below 0 is rounded down too: (-0.01 + 0) / 2 per cent
mean_below : mean_of (step 0 (pos 0) ∷ step 10 (negsuc 0) ∷ step 20 (pos 0) ∷ []) ≡ Some (negsuc 0)
unfolding step
mean_below = refl

no_mean : mean_of (step 0 (pos 0) ∷ []) ≡ None
unfolding step
no_mean = refl

-- 10 up, 15 up and 40.01 down
its_variation : variation_of kinked ≡ 6501
unfolding step kinked variation_of first_value
its_variation = refl

its_range : range_of (curve kinked) ≡ 4001
unfolding step kinked curve gain_of worst_of
its_range = refl

-- up to 24.9 per cent by half, and 25 behind it
saturated : List CurveStep
saturated = step 0 (pos 0) ∷ step 25 (pos 1300) ∷ step 50 (pos 2490) ∷ step 75 (pos 2500) ∷ []

-- with 24.89 it would not be flat
not_flat : flat_from (curve (step 0 (pos 0) ∷ step 50 (pos 2489) ∷ step 75 (pos 2500) ∷ [])) ≡ None
unfolding step curve gain_of flat_above
not_flat = refl

its_flat : flat_from (curve saturated) ≡ Some 50
unfolding step saturated curve gain_of flat_above
its_flat = refl

-- a curve that still rises at its greatest speedup stays nowhere
rising_flat : flat_from (curve (step 0 (pos 0) ∷ step 50 (pos 1000) ∷ step 95 (pos 2000) ∷ [])) ≡ None
unfolding step curve gain_of flat_above
rising_flat = refl

-- ten speedups: 2 per cent up, and down again, five times
rough : List CurveStep
rough =
    step 0 (pos 0) ∷ step 10 (pos 200) ∷ step 20 (pos 0) ∷ step 30 (pos 200) ∷ step 40 (pos 0)
    ∷ step 50 (pos 200) ∷ step 60 (pos 0) ∷ step 70 (pos 200) ∷ step 80 (pos 0) ∷ step 90 (pos 200) ∷ []

its_mark : is_rough (curve rough) ≡ true
unfolding step rough curve gain_of worst_of variation_of first_value
its_mark = refl

-- four speedups are too few for a mark
no_mark : is_rough (curve kinked) ≡ false
unfolding step kinked curve gain_of worst_of variation_of first_value
no_mark = refl

-- 0.19 per cent at most is folded, 0.2 per cent down is not
small : is_folded (curve (step 0 (pos 0) ∷ step 50 (pos 19) ∷ step 95 (negsuc 18) ∷ [])) ≡ true
unfolding step curve gain_of worst_of
small = refl

not_small : is_folded (curve (step 0 (pos 0) ∷ step 50 (pos 19) ∷ step 95 (negsuc 19) ∷ [])) ≡ false
unfolding step curve gain_of worst_of
not_small = refl

-- a mean of 5 per cent stands before a peak of 8 with a mean of 4
before : means_before (curve (step 0 (pos 0) ∷ step 50 (pos 500) ∷ step 95 (pos 500) ∷ [])) (curve (step 0 (pos 0) ∷ step 50 (pos 800) ∷ step 95 (pos 0) ∷ [])) ≡ true
unfolding step curve gain_of worst_of
before = refl
