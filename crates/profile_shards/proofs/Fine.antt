-- Profiles of lists of lines have their budget, points, speedups and baselines alike.
use Rattle.std.proofs.Common.{◌≡◌, ℕ, ◌<◌, ◌⊎◌, Bool, true, false, cond, inl, inr, List, [], ◌∷◌, ◌++◌, map, find, All, Option, Some, None, refl, sym, ap, ap₂, subst, ◌∙◌}
use Rattle.std.specs.List.{AllByRecursion}
use Rattle.std.specs.List.Sorted.{IsStrictlySortedBy}
use Rattle.std.specs.Ordering.{nat_cmp}
use Rattle.std.specs.Str.{bytes_eq}
use Rattle.std.specs.declared.cmp.Ordering.{Ordering}
use Rattle.std.specs.declared.cmp.Ordering.TheVariants.{Less, Equal}
use Rattle.std.proofs.lemmas.Bool.{eqb-true}
use Rattle.std.proofs.lemmas.Cmp.{tied_itself}
use Rattle.std.proofs.lemmas.List.Elements.{All-from_recursion}
use Rattle.std.proofs.lemmas.Slice.Eq.{bytes_eq-Decides}
use Rattle.coz_types.specs.Labels.{Text}
use Rattle.coz_types.specs.declared.record.Summary.{Summary}
use Rattle.profile_book.specs.declared.profile.Profile.{Profile}
use Rattle.profile_labels.specs.Groups.{groups_by, groups, goes_with, have_one_label, join}
use Rattle.profile_labels.proofs.FirstGroups.{joined, apart}
use Rattle.profile_labels.proofs.LabelOrder.{label_cmp_total}
use Rattle.profile_labels.specs.LabelOrder.{label_cmp}
use Rattle.profile_join.specs.Parts.{speedups_in, first_group, blocks_of, is_baseline, unlabelled, CameAs, AreTimes, AllCameAs, IsKind, head_of}
use Rattle.profile_join.proofs.Among.{Among, among_mapped, out_of_all, one_of, each_of}
use Rattle.profile_shards.specs.Shards.{AreBlocks, blocks_at, profile_at}
use Rattle.profile_shards.proofs.Held.{Right, labels_cmp}
use Rattle.profile_shards.proofs.Twice.{is_block}

-- the first group is of another label than this one
abbrev IsApart : Text → List (List Summary) → Type 0
IsApart t [] = Unit {0}
IsApart t (g ∷ gs) = (s : Summary) → s.selected ≡ t → goes_with have_one_label s g ≡ false

group_or : List (List Summary) → List Summary → List Summary
group_or gs other = elim gs [ [] ↦ other | group ∷ rest ↦ group ]

found : {X : Type 0} (test : X → Bool) (xs : List X) (x : X) → find test xs ≡ Some x → Among x xs × (test x ≡ true)
found test [] x e = absurd cc
found test (y ∷ ys) x e = by (test y) refl e (found test ys x)
  where
    by : (b : Bool) → test y ≡ b → cond b (Some y) (find test ys) ≡ Some x → (find test ys ≡ Some x → Among x ys × (test x ≡ true)) → Among x (y ∷ ys) × (test x ≡ true)
    by true d is more = let same : y ≡ x = cc in (inl same, subst (λ z. test z ≡ true) same d)
    by false d is more = let rest = more is in (inr rest.0, rest.1)

module _ {count : ℕ} {label : ℕ → Text} {block : ℕ → ℕ → Summary} (are : AreBlocks count label block) where
  labels_differ : (l m : ℕ) → l < count → m < count → nat_cmp l m ≡ Less → bytes_eq (label l) (label m) ≡ false
  labels_differ l m few few' less = by (bytes_eq (label l) (label m)) refl
    where
      by : (b : Bool) → bytes_eq (label l) (label m) ≡ b → b ≡ false
      by false e = refl
      by true e =
          let same : label l ≡ label m = (bytes_eq-Decides (label l) (label m)).0 e in
          absurd (let no : ◌≡◌ {A = Ordering} Less Equal = sym (labels_cmp are l m few few' ∙ less) ∙ ap (λ t. label_cmp (label l) t) (sym same) ∙ tied_itself label_cmp_total (label l) in cc)

  same_label : (l q p : ℕ) → bytes_eq (block l q).selected (block l p).selected ≡ true
  same_label l q p = (bytes_eq-Decides (block l q).selected (block l p).selected).1 (are.selected l q ∙ sym (are.selected l p))

  -- the blocks of a line are a group
  line_group : (l q : ℕ) (ps : List ℕ) (rest : List Summary) → IsApart (label l) (groups rest) → groups (map (block l) (q ∷ ps) ++ rest) ≡ map (block l) (q ∷ ps) ∷ groups rest
  unfolding groups_by
  line_group l q [] rest other = by (groups rest) other
    where
      by : (gs : List (List Summary)) → IsApart (label l) gs → join have_one_label (block l q) gs ≡ (block l q ∷ []) ∷ gs
      by [] is = refl
      by (g ∷ gs) is = apart have_one_label (block l q) g gs (is (block l q) (are.selected l q))
  line_group l q (p ∷ ps) rest other =
      ap (join have_one_label (block l q)) (line_group l p ps rest other)
      ∙ joined have_one_label (block l q) (map (block l) (p ∷ ps)) (groups rest) (same_label l q p)

  module _ (q : ℕ) (ps : List ℕ) where
    abbrev speedups : List ℕ
    speedups = q ∷ ps

    -- the groups are the lines' blocks
    line_groups : (lines : List ℕ) → IsStrictlySortedBy nat_cmp lines → AllByRecursion (λ line. line < count) lines → groups (blocks_at block speedups lines) ≡ map (λ l. map (block l) speedups) lines
    unfolding groups_by IsStrictlySortedBy
    line_groups [] up below = refl
    line_groups (l ∷ lines) up below =
        line_group l q ps (blocks_at block speedups lines) (subst (IsApart (label l)) (sym (line_groups lines up.1 below.1)) (others lines up.0 below.1))
        ∙ ap (λ (gs : List (List Summary)). map (block l) speedups ∷ gs) (line_groups lines up.1 below.1)
      where
        others : (ms : List ℕ) → AllByRecursion (λ m. nat_cmp l m ≡ Less) ms → AllByRecursion (λ m. m < count) ms → IsApart (label l) (map (λ m. map (block m) speedups) ms)
        others [] less few = tt
        others (m ∷ ms) less few = λ s e. ap₂ bytes_eq e (are.selected m q) ∙ labels_differ l m below.0 few.0 less.0

    speedups_of : (l : ℕ) (ns : List ℕ) → speedups_in (map (block l) ns) ≡ ns
    speedups_of l [] = refl
    speedups_of l (n ∷ ns) = ap₂ (λ k ks. k ∷ ks) (are.speedup l n) (speedups_of l ns)

    abbrev HaveThese : List Summary → Type 0
    HaveThese group = speedups_in group ≡ speedups

    times : (lines : List ℕ) → Right count lines → AreTimes speedups (blocks_at block speedups lines)
    times lines right =
        subst (All HaveThese) (sym (line_groups lines right.rise right.below))
        (All-from_recursion HaveThese (map (λ l. map (block l) speedups) lines) (each lines))
      where
        each : (ls : List ℕ) → AllByRecursion HaveThese (map (λ l. map (block l) speedups) ls)
        each [] = tt
        each (l ∷ ls) = (speedups_of l speedups, each ls)

    no_times : (ns : List ℕ) → AreTimes ns []
    unfolding groups_by
    no_times ns = All-from_recursion (λ (group : List Summary). speedups_in group ≡ ns) [] tt

    module _ (budget : ℕ) (points : List Text) where
      abbrev parts : List (List ℕ) → List Profile
      parts lists = map (profile_at budget points block speedups) lists

      -- the first label of all has these speedups, unless there is none
      first_speedups : (lists : List (List ℕ)) → AllByRecursion (Right count) lists → (speedups_in (first_group (parts lists)) ≡ speedups) ⊎ AllByRecursion (λ (lines : List ℕ). lines ≡ []) lists
      unfolding group_or groups_by
      first_speedups [] right = inr tt
      first_speedups ([] ∷ lists) right = by (first_speedups lists right.1)
        where
          by : (speedups_in (first_group (parts lists)) ≡ speedups) ⊎ AllByRecursion (λ (lines : List ℕ). lines ≡ []) lists → (speedups_in (first_group (parts ([] ∷ lists))) ≡ speedups) ⊎ AllByRecursion (λ (lines : List ℕ). lines ≡ []) ([] ∷ lists)
          by (inl e) = inl e
          by (inr all) = inr (refl, all)
      first_speedups ((l ∷ lines) ∷ lists) right =
          inl (ap (λ gs. speedups_in (group_or gs (first_group (parts lists)))) (line_groups (l ∷ lines) right.0.rise right.0.below) ∙ speedups_of l speedups)

      all_times : (lists : List (List ℕ)) (lines : List ℕ) → AllByRecursion (Right count) lists → Among lines lists → AreTimes (speedups_in (first_group (parts lists))) (blocks_at block speedups lines)
      all_times lists lines right h = by (first_speedups lists right)
        where
          by : (speedups_in (first_group (parts lists)) ≡ speedups) ⊎ AllByRecursion (λ (lines : List ℕ). lines ≡ []) lists → AreTimes (speedups_in (first_group (parts lists))) (blocks_at block speedups lines)
          by (inl e) = subst (λ ns. AreTimes ns (blocks_at block speedups lines)) (sym e) (times lines (one_of (Right count) lines lists right h))
          by (inr all) =
              subst (λ ls. AreTimes (speedups_in (first_group (parts lists))) (blocks_at block speedups ls)) (sym (one_of (λ (lines : List ℕ). lines ≡ []) lines lists all h))
              (no_times (speedups_in (first_group (parts lists))))

      -- at speedup 0 a block is that of line 0 but for its label and its starts
      base_is : (lines : List ℕ) (s : Summary) → Among s (blocks_at block speedups lines) → s.speedup ≡ 0 → unlabelled s ≡ unlabelled (block 0 0)
      base_is lines s h zero =
          let of = is_block block speedups lines s h in
          let none : of.speedup ≡ 0 = sym (are.speedup of.line of.speedup) ∙ ap (λ (t : Summary). t.speedup) of.is ∙ zero in
          ap unlabelled (sym of.is) ∙ ap (λ n. unlabelled (block of.line n)) none ∙ are.alike of.line 0

      all_as : (lists : List (List ℕ)) (lines : List ℕ) (first : Option Summary) → find is_baseline (blocks_of (parts lists)) ≡ first → AllCameAs first (blocks_at block speedups lines)
      all_as lists lines None e = All-from_recursion (CameAs None) (blocks_at block speedups lines) (each_of (CameAs None) (blocks_at block speedups lines) (λ s h. tt))
      all_as lists lines (Some first) e =
          let at = found is_baseline (blocks_of (parts lists)) first e in
          let part = out_of_all (λ (p : Profile). p.summaries) first (parts lists) at.0 in
          let list = among_mapped (profile_at budget points block speedups) part.0 lists part.1 in
          let there : Among first (blocks_at block speedups list.0) = subst (λ (p : Profile). Among first p.summaries) (sym list.2) part.2 in
          let base : unlabelled first ≡ unlabelled (block 0 0) = base_is list.0 first there (eqb-true first.speedup 0 at.1) in
          All-from_recursion (CameAs (Some first)) (blocks_at block speedups lines) (each_of (CameAs (Some first)) (blocks_at block speedups lines) (λ s h zero. base_is lines s h zero ∙ sym base))

      -- no part has something unlike
      pub fine : (list : List ℕ) (more : List (List ℕ)) → AllByRecursion (Right count) (list ∷ more) → All (λ (p : Profile). IsKind (head_of (parts (list ∷ more))) p None) (parts (list ∷ more))
      fine list more right =
          All-from_recursion (λ (p : Profile). IsKind (head_of (parts (list ∷ more))) p None) (parts (list ∷ more))
          (each_of (λ (p : Profile). IsKind (head_of (parts (list ∷ more))) p None) (parts (list ∷ more)) (λ p h.
          let of = among_mapped (profile_at budget points block speedups) p (list ∷ more) h in
          subst (λ (r : Profile). IsKind (head_of (parts (list ∷ more))) r None) of.2
          (refl, refl, all_times (list ∷ more) of.0 right of.1, all_as (list ∷ more) of.0 (find is_baseline (blocks_of (parts (list ∷ more)))) refl)))
