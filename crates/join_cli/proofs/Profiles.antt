-- The profile of some of a program's lines is within the ranges and orders of profiles.
use Rattle.std.proofs.Common.{◌≡◌, ℕ, ◌^◌, ◌≤◌, ◌<◌, true, nat_cmp, Ordering, List, [], ◌∷◌, map, length, All, Option, Some, refl, sym, subst, arith}
use Rattle.std.specs.declared.cmp.Ordering.TheVariants.{Less, Equal, Greater}
use Rattle.std.specs.List.{AllByRecursion, list_all}
use Rattle.std.specs.List.Sorted.{IsStrictlySortedBy}
use Rattle.std.specs.FinMap.Entries.{by_order}
use Rattle.std.proofs.lemmas.List.{length-map}
use Rattle.std.proofs.lemmas.List.Elements.{recursion_from_All, All-from_recursion}
use Rattle.coz_types.specs.Image.{ImageParts}
use Rattle.coz_types.specs.Labels.{Text, is_label, label_before}
use Rattle.coz_types.specs.Ranges.{IsSummary}
use Rattle.coz_types.specs.declared.record.Summary.{Summary}
use Rattle.experiment_plan.specs.Selected.{rising_numbers}
use Rattle.experiment_plan.proofs.Rising.{less}
use Rattle.guest_memory.specs.Regions.{IsLayout, usual}
use Rattle.line_index.specs.Lines.{Line, IsRight, label_at, line_cmp}
use Rattle.line_index.specs.Listed.{in_order, with_element}
use Rattle.profile_book.specs.Profile.{is_rising, IsProfile}
use Rattle.profile_shards.specs.Shards.{AreBlocks, AreLines, blocks_at, profile_at}
use Rattle.profile_shards.proofs.Whole.{and_true, blocks_rise}
use Rattle.profile_pool.proofs.Choices.{valid_choice}
use Rattle.profile_pool.proofs.Within.{summary_is}
use Rattle.run_engine.specs.Choices.{choice_of}
use Rattle.run_engine.specs.Run.{IsChoice}
use Rattle.join_cli.proofs.Tables.{both}
use Rattle.join_cli.proofs.Runs.{in_ranges}
use Rattle.join_cli.proofs.Blocks.{are_blocks, block_at, speedups_rise}

-- ---- lists

order_all : (P : ℕ → Type 0) (o : Ordering) (x y : ℕ) (ys more : List ℕ) → P x → P y → AllByRecursion P ys → AllByRecursion P more → AllByRecursion P (by_order o (x ∷ y ∷ ys) (y ∷ ys) (y ∷ more))
order_all P Less x y ys more px py pys rest = (px, (py, pys))
order_all P Equal x y ys more px py pys rest = (py, pys)
order_all P Greater x y ys more px py pys rest = (py, rest)

element_all : (P : ℕ → Type 0) (x : ℕ) (xs : List ℕ) → P x → AllByRecursion P xs → AllByRecursion P (with_element nat_cmp x xs)
element_all P x [] one all = (one, tt)
element_all P x (y ∷ ys) one all = order_all P (nat_cmp x y) x y ys (with_element nat_cmp x ys) one all.0 all.1 (element_all P x ys one all.1)

ordered_all : (P : ℕ → Type 0) (xs : List ℕ) → AllByRecursion P xs → AllByRecursion P (in_order nat_cmp xs)
ordered_all P [] all = tt
ordered_all P (x ∷ xs) all = element_all P x (in_order nat_cmp xs) all.0 (ordered_all P xs all.1)

-- ---- labels

module _ {count : ℕ} {label : ℕ → Text} {block : ℕ → ℕ → Summary} (are : AreBlocks count label block) where
  names_right : (lines : List ℕ) → AllByRecursion (λ line. line < count) lines → list_all is_label (map label lines) ≡ true
  names_right [] below = refl
  names_right (l ∷ lines) below = and_true (is_label (label l)) (list_all is_label (map label lines)) (are.right l below.0) (names_right lines below.1)

  names_rise : (lines : List ℕ) → IsStrictlySortedBy nat_cmp lines → AllByRecursion (λ line. line < count) lines → is_rising label_before (map label lines) ≡ true
  unfolding IsStrictlySortedBy
  names_rise [] up below = refl
  names_rise (l ∷ []) up below = refl
  names_rise (l ∷ m ∷ lines) up below =
      and_true (label_before (label l) (label m)) (is_rising label_before (map label (m ∷ lines))) (are.rise l m (less l m up.0.0) below.1.0) (names_rise (m ∷ lines) up.1 below.1)

-- ---- the profile

-- A program's file and entry, its lines, and what a profile of it is asked for, are within their
-- ranges.
pub record IsSound (image : ImageParts) (lines : List Line) (points : List ℕ) (input : List ℕ) (budget : ℕ) (speedups : List ℕ) : Type 0 where
  pub entry : image.entry < 2 ^ 64
  pub file : All (λ b. b < 256) image.file
  pub rise : IsStrictlySortedBy line_cmp lines
  pub right : All IsRight lines
  pub some_budget : 1 ≤ budget
  pub small_budget : budget ≤ 10 ^ 12
  pub points_are : AreLines (length lines) points
  pub few : length points ≤ 64
  pub slow : All (λ speedup. speedup ≤ 95) speedups
  pub bytes : All (λ b. b < 256) input

module _ (image : ImageParts) (lines : List Line) (position point : ℕ → Option ℕ) (points : List ℕ) (input : List ℕ) (budget : ℕ) (speedups : List ℕ) (sound : IsSound image lines points input budget speedups) where
  abbrev block : ℕ → ℕ → Summary
  block line speedup = block_at image lines position point points input budget line speedup

  blocks : AreBlocks (length lines) (label_at lines) block
  blocks = are_blocks image lines position point points input budget sound.rise sound.right

  abbrev rates : List ℕ
  rates = rising_numbers (0 ∷ speedups)

  block_right : (line speedup : ℕ) → line < length lines → speedup ≤ 95 → IsSummary (length points) (block line speedup)
  block_right line speedup below slow =
      let valid : IsChoice (choice_of (Some line) speedup budget) = valid_choice line speedup budget sound.some_budget sound.small_budget slow in
      let ranges = in_ranges image position point input (choice_of (Some line) speedup budget) valid (recursion_from_All (λ b. b < 256) image.file sound.file) sound.entry (recursion_from_All (λ b. b < 256) input sound.bytes) in
      summary_is (label_at lines line) speedup (length points) _ ranges.within ranges.output ranges.visits (blocks.right line below) slow

  line_right : (line : ℕ) (qs : List ℕ) → line < length lines → AllByRecursion (λ q. q ≤ 95) qs → AllByRecursion (IsSummary (length points)) (map (block line) qs)
  line_right line [] below slow = tt
  line_right line (q ∷ qs) below slow = (block_right line q below slow.0, line_right line qs below slow.1)

  lines_right : (chosen : List ℕ) → AllByRecursion (λ line. line < length lines) chosen → AllByRecursion (IsSummary (length points)) (blocks_at block rates chosen)
  lines_right [] below = tt
  lines_right (line ∷ chosen) below =
      both (IsSummary (length points)) (map (block line) rates) (blocks_at block rates chosen)
      (line_right line rates below.0 (ordered_all (λ q. q ≤ 95) (0 ∷ speedups) (omega arith, recursion_from_All (λ q. q ≤ 95) speedups sound.slow)))
      (lines_right chosen below.1)

  pub profile_right : (chosen : List ℕ) → AreLines (length lines) chosen → IsProfile (profile_at budget (map (label_at lines) points) block rates chosen)
  profile_right chosen rise =
      let points_below = recursion_from_All (λ line. line < length lines) points sound.points_are.below in
      let as_many : length (map (label_at lines) points) ≡ length points = length-map points (label_at lines) in
      record {
        budget = let few : budget ≤ 10 ^ 12 = sound.small_budget in omega arith;
        points = let few : length points ≤ 64 = sound.few in omega arith;
        names = names_right blocks points points_below;
        names_rise = names_rise blocks points sound.points_are.rise points_below;
        summaries = subst (λ (n : ℕ). AllByRecursion (IsSummary n) (blocks_at block rates chosen)) (sym as_many) (lines_right chosen (recursion_from_All (λ line. line < length lines) chosen rise.below));
        blocks_rise = blocks_rise blocks rates (speedups_rise speedups) chosen rise.rise (recursion_from_All (λ line. line < length lines) chosen rise.below);
      }

  all_by : (lists : List (List ℕ)) → AllByRecursion (AreLines (length lines)) lists → AllByRecursion IsProfile (map (profile_at budget (map (label_at lines) points) block rates) lists)
  all_by [] all = tt
  all_by (chosen ∷ lists) all = (profile_right chosen all.0, all_by lists all.1)

  pub profiles_right : (lists : List (List ℕ)) → All (AreLines (length lines)) lists → All IsProfile (map (profile_at budget (map (label_at lines) points) block rates) lists)
  profiles_right lists all = All-from_recursion IsProfile (map (profile_at budget (map (label_at lines) points) block rates) lists) (all_by lists (recursion_from_All (AreLines (length lines)) lists all))
