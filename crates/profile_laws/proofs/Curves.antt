-- The curves of the profile of lines are those of the net parts of its runs.
use Rattle.std.proofs.Common.{◌≡◌, ℕ, zero, suc, ◌+◌, ◌*◌, ◌<◌, ◌||◌, ◌==◌, Bool, cond, if◌then◌else◌, List, [], ◌∷◌, ◌++◌, map, flat_map, length, Option, Some, None, ℤ, refl, ap, ap₂, ◌∙◌, arith, nat_cmp}
use Rattle.std.proofs.Math.Path.{fun_ext}
use Rattle.std.specs.List.{count_by, enumerate_from, range_with_len}
use Rattle.std.specs.declared.cmp.Ordering.TheVariants.{Less, Equal, Greater}
use Rattle.std.specs.FinMap.Entries.{by_order}
use Rattle.std.proofs.lemmas.Bool.{lt-ltb}
use Rattle.std.proofs.lemmas.List.{length-map}
use Rattle.std.proofs.lemmas.List.Elements.{recursion_from_All}
use Rattle.std.proofs.lemmas.List.FromFn.{get_or-map-range_with_len}
use Rattle.std.proofs.lemmas.Simd.{map-map}
use Rattle.coz_types.specs.Labels.{Text}
use Rattle.coz_types.specs.declared.record.Summary.{Summary}
use Rattle.line_index.specs.Lines.{Line, label_at}
use Rattle.line_index.specs.Listed.{in_order, with_element}
use Rattle.experiment_plan.specs.Selected.{rising_numbers}
use Rattle.machines.specs.Records.{Record, NetRecord, net}
use Rattle.machines.specs.Shortened.{NetVisit}
use Rattle.causal_curves.specs.Curves.{value_over, visits, share, step_of, curve_of, gain_of, curves_of}
use Rattle.causal_curves.specs.declared.curve.Curve.{Curve}
use Rattle.causal_curves.specs.declared.curve.CurveStep.{CurveStep}
use Rattle.profile_labels.specs.Groups.{groups}
use Rattle.profile_pool.specs.Summaries.{summary_of}
use Rattle.profile_shards.specs.Shards.{AreBlocks, AreLines, blocks_at, profile_at}
use Rattle.profile_laws.specs.Headline.{visits_of, gain_at, curve_at, curves_at}
use Rattle.profile_laws.proofs.Grouped.{all_groups}

-- ---- speedups

less : (x y : ℕ) → x < y → nat_cmp x y ≡ Less
less x y lt = ap (λ (b : Bool). cond b Less (cond (x == y) Equal Greater)) (lt-ltb x y lt)

with_zero : (xs : List ℕ) → (more : List ℕ) × (with_element nat_cmp 0 xs ≡ 0 ∷ more)
with_zero [] = ([], refl)
with_zero (zero ∷ xs) = (xs, refl)
with_zero (suc x ∷ xs) = (suc x ∷ xs, ap (λ o. by_order o (0 ∷ suc x ∷ xs) (suc x ∷ xs) (suc x ∷ with_element nat_cmp 0 xs)) (less 0 (suc x) (omega arith)))

-- 0 is the first
pub zero_first : (speedups : List ℕ) → (more : List ℕ) × (rising_numbers (0 ∷ speedups) ≡ 0 ∷ more)
zero_first speedups = with_zero (in_order nat_cmp speedups)

-- ---- points

over_points : (f g : ℕ → List Curve) (n : ℕ) (names : List Text) → ((k : ℕ) → k < n + length names → f k ≡ g k) → flat_map (λ (place : ℕ × Text). f place.0) (enumerate_from n names) ≡ flat_map g (range_with_len n (length names))
over_points f g n [] same = refl
over_points f g n (x ∷ names) same =
    ap₂ (λ (xs ys : List Curve). xs ++ ys) (same n (omega arith)) (over_points f g (n + 1) names (λ k lt. same k (omega (arith, lt))))

-- `made` gives the record of a line at a speedup
module _ (lines : List Line) (points : List ℕ) (made : ℕ → ℕ → Record) where
  abbrev pub block : ℕ → ℕ → Summary
  block line speedup = summary_of (label_at lines line) speedup (length points) (made line speedup)

  abbrev pub run : ℕ → ℕ → NetRecord
  run line speedup = net (made line speedup)

  -- ---- one value

  count_is : (point line speedup : ℕ) → point < length points → visits point (block line speedup) ≡ visits_of point (run line speedup)
  unfolding summary_of
  count_is point line speedup lt =
      get_or-map-range_with_len (λ (k : ℕ). count_by (λ (visit : NetVisit). visit.point == k) (run line speedup).visits) 0 (length points) point point 0 lt (omega arith)

  value_is : (point line speedup : ℕ) → point < length points → value_over point (block line 0) (block line speedup) ≡ gain_at point (run line 0) (run line speedup)
  unfolding summary_of
  value_is point line speedup lt =
      let time : ℕ = (run line 0).time in
      let faster : ℕ = (run line speedup).time in
      ap₂ (λ (n m : ℕ). if n == 0 || (m == 0 || time == 0) then None else Some (share (time * m) (faster * n)))
      (count_is point line 0 lt) (count_is point line speedup lt)

  -- ---- one curve

  step_is : (point line speedup : ℕ) → point < length points → step_of point (Some (block line 0)) (block line speedup) ≡ record { speedup = speedup; value = gain_at point (run line 0) (run line speedup) }
  unfolding summary_of
  step_is point line speedup lt = ap (λ (v : Option ℤ). record { speedup = speedup; value = v }) (value_is point line speedup lt)

  steps_are : (point line : ℕ) (speedups : List ℕ) → point < length points
      → map (step_of point (Some (block line 0))) (map (block line) speedups)
      ≡ map (λ (p : ℕ). record { speedup = p; value = gain_at point (run line 0) (run line p) }) speedups
  steps_are point line speedups lt =
      map-map (step_of point (Some (block line 0))) (block line) speedups
      ∙ ap (λ (f : ℕ → CurveStep). map f speedups) (fun_ext (λ (p : ℕ). step_is point line p lt))

  curve_is : (point line : ℕ) (more : List ℕ) → point < length points → curve_of point (map (block line) (0 ∷ more)) ≡ curve_at (run line) (label_at lines line) (0 ∷ more) point
  unfolding summary_of
  curve_is point line more lt =
      ap (λ (steps : List CurveStep). record { point = point; selected = label_at lines line; gain = gain_of steps; steps = steps })
      (steps_are point line (0 ∷ more) lt)

  -- ---- all curves

  module _ (are : AreBlocks (length lines) (label_at lines) block) (chosen : List ℕ) (right : AreLines (length lines) chosen) (more : List ℕ) (budget : ℕ) where
    at_point : (point : ℕ) → point < length points
        → map (curve_of point) (groups (blocks_at block (0 ∷ more) chosen))
        ≡ map (λ (line : ℕ). curve_at (run line) (label_at lines line) (0 ∷ more) point) chosen
    at_point point lt =
        ap (map (curve_of point)) (all_groups are 0 more chosen right.rise (recursion_from_All (λ line. line < length lines) chosen right.below))
        ∙ map-map (curve_of point) (λ (line : ℕ). map (block line) (0 ∷ more)) chosen
        ∙ ap (λ (f : ℕ → Curve). map f chosen) (fun_ext (λ (line : ℕ). curve_is point line more lt))

    pub curves_are : curves_of (profile_at budget (map (label_at lines) points) block (0 ∷ more) chosen) ≡ curves_at run (label_at lines) chosen (0 ∷ more) (length points)
    unfolding curves_of
    curves_are =
        let many : length (map (label_at lines) points) ≡ length points = length-map points (label_at lines) in
        over_points (λ (point : ℕ). map (curve_of point) (groups (blocks_at block (0 ∷ more) chosen)))
        (λ (point : ℕ). map (λ (line : ℕ). curve_at (run line) (label_at lines line) (0 ∷ more) point) chosen)
        0 (map (label_at lines) points) (λ k lt. at_point k (omega (arith, lt, many)))
        ∙ ap (curves_at run (label_at lines) chosen (0 ∷ more)) many
