-- What is known of all runs, and of the first seed.
use Rattle.std.proofs.Common.{◌≡◌, ℕ, zero, suc, ◌<◌, true, ◌==◌, List, [], ◌∷◌, length, map, take, get_or, slice_index_or, Option, Some, None, IfSome, refl, sym, ap, subst, ◌∙◌, arith, rules}
use Rattle.std.specs.List.{All, AllByRecursion, flat_map, enumerate_from}
use Rattle.std.proofs.lemmas.List.{length-map}
use Rattle.std.proofs.lemmas.List.Elements.{All-take}
use Rattle.std.proofs.lemmas.List.FromFn.{length-enumerate_from}
use Rattle.coz_types.specs.Labels.{Text}
use Rattle.coz_types.specs.declared.record.Summary.{Summary}
use Rattle.profile_book.specs.Profile.{IsProfile}
use Rattle.profile_book.specs.declared.profile.Profile.{Profile}
use Rattle.profile_labels.specs.Groups.{groups}
use Rattle.causal_curves.specs.Measured.{IsMeasured}
use Rattle.causal_curves.proofs.Ranks.{all_measured}
use Rattle.average_steps.specs.Steps.{AreMeasured}
use Rattle.average_steps.specs.declared.average_step.AverageStep.{AverageStep}
use Rattle.average_curves.specs.declared.averaged.Averaged.{Averaged}
use Rattle.average_curves.specs.Curves.{curves_at, curves_in, points_of, HasSmallDelay, IsAveraged, IsShort, IsSoundAt}
use Rattle.average_curves.proofs.Lines.{lines_short}

pub count_is : (f : ℕ × Summary → AverageStep) (start : ℕ) (runs : List Summary) (steps : List AverageStep) → steps ≡ map f (enumerate_from start runs) → length steps ≡ length runs
count_is f start runs steps is = ap length is ∙ length-map (enumerate_from start runs) f ∙ length-enumerate_from start runs

-- ---- one point

measured_at : (point : ℕ) (p : Profile) (count : ℕ) → point < count → length p.points ≡ count → IsProfile p → All (IsMeasured point) p.summaries
measured_at point p count lt as_many right = all_measured (length p.points) point (omega (arith, lt, as_many)) p.summaries right.summaries

exact_at : (point count : ℕ) → point < count → (exact : Option Profile) → IfSome exact IsProfile → IfSome exact (λ (p : Profile). length p.points ≡ count) → IfSome exact (λ (p : Profile). All (IsMeasured point) p.summaries)
exact_at point count lt None right as_many = tt
exact_at point count lt (Some p) right as_many = measured_at point p count lt as_many right

some_profiles : (k : ℕ) (ps : List Profile) → k < length (points_of ps) → 0 < length ps
some_profiles k [] lt = absurd (omega (arith, lt))
some_profiles k (p ∷ ps) lt = omega arith

pub sound_at : (a : Averaged) (point : ℕ) → IsAveraged a → point < length (points_of a.profiles) → IsSoundAt point a
sound_at a point is lt =
    let measured : AreMeasured point a.profiles = λ k d few. measured_at point (slice_index_or a.profiles k d) (length (points_of a.profiles)) lt (is.points k d few) (is.right k d few) in
    record {
      few = is.few;
      seeds = is.seeds;
      measured = measured;
      seeds_measured = All-take (λ (p : Profile). All (IsMeasured point) p.summaries) a.seeds a.profiles measured;
      exact = exact_at point (length (points_of a.profiles)) lt a.exact is.exact (is.exact_points (some_profiles point a.profiles lt));
      runs = is.runs;
    }

pub small_delays : (point : ℕ) (ps : List Profile) → AreMeasured point ps → All (λ (p : Profile). All HasSmallDelay p.summaries) ps
small_delays point ps measured = λ k d lt i e few. let is = measured k d lt i e few in omega (arith, is.time, is.delay)

-- ---- the first seed

pub points_in : (n : ℕ) (ps : List Profile) (p : Profile) → 0 < length (take n ps) → p ≡ get_or (take n ps) 0 p → points_of ps ≡ p.points
points_in zero ps p some is = absurd (omega (arith, some))
points_in (suc n) [] p some is = absurd (omega (arith, some))
points_in (suc n) (x ∷ ps) p some is = ap (λ (q : Profile). q.points) (sym is)

pub first_right : (n : ℕ) (ps : List Profile) (p : Profile) → All IsProfile ps → 0 < length (take n ps) → p ≡ get_or (take n ps) 0 p → IsProfile p
first_right zero ps p all some is = absurd (omega (arith, some))
first_right (suc n) [] p all some is = absurd (omega (arith, some))
first_right (suc n) (x ∷ ps) p all some is = subst IsProfile (sym is) (all 0 x (omega arith))

pub first_short : (p : Profile) → IsProfile p → AllByRecursion IsShort (groups p.summaries)
first_short p right = lines_short (length p.points) p.summaries right.blocks_rise right.summaries

pub none_first : (a : Averaged) (seeds : List Profile) → (length seeds == 0) ≡ true → [] ≡ curves_in a seeds
unfolding curves_in
none_first a [] empty = refl
none_first a (p ∷ seeds) empty = let e : length (p ∷ seeds) ≡ 0 = search (rules, empty) in absurd (omega (arith, e))

pub of_first : (a : Averaged) (seeds : List Profile) (p : Profile) → 0 < length seeds → p ≡ get_or seeds 0 p → flat_map (λ (place : ℕ × Text). curves_at a p.summaries place.0) (enumerate_from 0 p.points) ≡ curves_in a seeds
unfolding curves_in
of_first a [] p some is = absurd (omega (arith, some))
of_first a (x ∷ seeds) p some is = ap (λ (q : Profile). flat_map (λ (place : ℕ × Text). curves_at a q.summaries place.0) (enumerate_from 0 q.points)) is
