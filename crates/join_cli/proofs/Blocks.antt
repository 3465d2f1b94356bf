-- The blocks of a program's lines, by position and speedup.
use Rattle.std.proofs.Common.{◌≡◌, ℕ, ◌<◌, nat_cmp, Ordering, List, [], ◌∷◌, ◌++◌, map, length, slice_get, All, Option, Some, refl, ap, ap₂, ◌∙◌, arith}
use Rattle.std.specs.declared.cmp.Ordering.TheVariants.{Less, Equal, Greater}
use Rattle.std.specs.Cmp.{nat_cmp_total}
use Rattle.std.specs.List.Sorted.{IsStrictlySortedBy}
use Rattle.std.specs.FinMap.Entries.{by_order}
use Rattle.std.proofs.lemmas.List.{length-map, map-append}
use Rattle.std.proofs.lemmas.Simd.{map-map}
use Rattle.std.proofs.lemmas.Option.{slice_get-get_or}
use Rattle.coz_types.specs.Image.{ImageParts}
use Rattle.coz_types.specs.declared.LineId.{LineId}
use Rattle.coz_types.specs.declared.record.Summary.{Summary}
use Rattle.line_index.specs.Lines.{Line, IsRight, label, label_at, line_cmp}
use Rattle.line_index.specs.Listed.{in_order, with_element}
use Rattle.line_index.proofs.Labelled.{labels_rise, right_label}
use Rattle.line_index.proofs.Ordered.{in_order_sorted}
use Rattle.machines.specs.Standing.{delayed_record}
use Rattle.experiment_plan.specs.declared.experiment.Experiment.{Experiment as Pair}
use Rattle.experiment_plan.specs.Pairs.{at_speedup}
use Rattle.experiment_plan.specs.Pairs as pairs
use Rattle.experiment_plan.specs.Selected.{rising_numbers}
use Rattle.profile_shards.specs.Shards.{AreBlocks, blocks_at, profile_at}
use Rattle.profile_pool.specs.Summaries.{summary_of}
use Rattle.profile_pool.specs.Profiles as pool
use Rattle.profile_pool.specs.Profiles.{profile_with, summary_on}
use Rattle.join_cli.proofs.Baselines.{pair_at, run_of, same_baseline}

-- ---- speedups

not_none : (o : Ordering) (x y : ℕ) (ys : List ℕ) → by_order o (x ∷ y ∷ ys) (y ∷ ys) (y ∷ with_element nat_cmp x ys) ≡ [] → ⊥
not_none Less x y ys e = cc
not_none Equal x y ys e = cc
not_none Greater x y ys e = cc

some_with : (x : ℕ) (xs : List ℕ) → with_element nat_cmp x xs ≡ [] → ⊥
some_with x [] e = cc
some_with x (y ∷ ys) e = not_none (nat_cmp x y) x y ys e

pub some_speedups : (speedups : List ℕ) → rising_numbers (0 ∷ speedups) ≡ [] → ⊥
some_speedups speedups e = some_with 0 (in_order nat_cmp speedups) e

pub speedups_rise : (speedups : List ℕ) → IsStrictlySortedBy nat_cmp (rising_numbers (0 ∷ speedups))
speedups_rise speedups = in_order_sorted nat_cmp_total (0 ∷ speedups)

-- ---- blocks

module _ (image : ImageParts) (lines : List Line) (position point : ℕ → Option ℕ) (points : List ℕ) (input : List ℕ) (budget : ℕ) where
  abbrev pub block_of : Pair → Summary
  block_of pair = summary_on lines points pair (delayed_record (run_of image position point points input budget pair))

  abbrev pub block_at : ℕ → ℕ → Summary
  block_at line speedup = block_of (pair_at line speedup)

  by_line : (chosen speedups : List ℕ) → map block_of (pairs.pairs_of (map (λ (l : ℕ). record { 0 = l }) chosen) speedups) ≡ blocks_at block_at speedups chosen
  by_line [] speedups = refl
  by_line (line ∷ chosen) speedups =
      let id : LineId = record { 0 = line } in
      map-append block_of (map (at_speedup id) speedups) (pairs.pairs_of (map (λ (l : ℕ). record { 0 = l }) chosen) speedups)
      ∙ ap₂ (λ (xs ys : List Summary). xs ++ ys) (map-map block_of (at_speedup id) speedups) (by_line chosen speedups)

  -- a profile of lines is that of their blocks
  pub profile_is : (speedups chosen : List ℕ)
      → profile_with (λ (pair : Pair). delayed_record (run_of image position point points input budget pair)) lines budget points (pool.pairs_of chosen speedups)
      ≡ profile_at budget (map (label_at lines) points) block_at (rising_numbers (0 ∷ speedups)) chosen
  profile_is speedups chosen =
      ap (λ (ss : List Summary). record { budget = budget; points = map (label_at lines) points; summaries = ss })
      (by_line chosen (rising_numbers (0 ∷ speedups)))

  label_there : (line : ℕ) → line < length lines → slice_get (map label lines) line ≡ Some (label_at lines line)
  label_there line lt = slice_get-get_or (map label lines) line [] (omega (arith, lt, length-map lines label))

  selected_is : (line speedup : ℕ) → (block_at line speedup).selected ≡ label_at lines line
  unfolding summary_of
  selected_is line speedup = refl

  speedup_is : (line speedup : ℕ) → (block_at line speedup).speedup ≡ speedup
  unfolding summary_of
  speedup_is line speedup = refl

  pub are_blocks : IsStrictlySortedBy line_cmp lines → All IsRight lines → AreBlocks (length lines) (label_at lines) block_at
  are_blocks rise right = record {
    selected = selected_is;
    speedup = speedup_is;
    alike = same_baseline image position point points input budget lines;
    right = λ line lt. right_label lines line (label_at lines line) right (label_there line lt);
    rise = λ line other lt below. labels_rise lines line other (label_at lines line) (label_at lines other) rise right lt (label_there line (omega (arith, lt, below))) (label_there other below);
  }
