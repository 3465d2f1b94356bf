-- The blocks of lines, each with a label of its own, are cut into those of each line.
use Rattle.std.proofs.Common.{◌≡◌, ℕ, ◌<◌, Bool, true, false, List, [], ◌∷◌, ◌++◌, map, nat_cmp, bytes_eq, refl, sym, ap, ap₂, subst, ◌∙◌}
use Rattle.std.specs.declared.cmp.Ordering.TheVariants.{Less}
use Rattle.std.specs.List.{AllByRecursion}
use Rattle.std.specs.List.Sorted.{IsStrictlySortedBy}
use Rattle.std.specs.Ordering.{is_lt}
use Rattle.std.proofs.lemmas.Cmp.{tied_itself}
use Rattle.std.proofs.lemmas.Slice.Eq.{bytes_eq-Decides}
use Rattle.coz_types.specs.Labels.{Text, label_before}
use Rattle.coz_types.specs.declared.record.Summary.{Summary}
use Rattle.experiment_plan.proofs.Rising.{less}
use Rattle.profile_labels.specs.Groups.{goes_with, join, groups_by, groups, have_one_label}
use Rattle.profile_labels.specs.LabelOrder.{label_cmp}
use Rattle.profile_labels.proofs.LabelOrder.{label_cmp_total}
use Rattle.profile_shards.specs.Shards.{AreBlocks, blocks_at}

-- a label before another is not that one
labels_apart : (a b : Text) → label_before a b ≡ true → bytes_eq a b ≡ false
labels_apart a b before = by (bytes_eq a b) refl
  where
    by : (t : Bool) → bytes_eq a b ≡ t → t ≡ false
    by false e = refl
    by true e =
        let same : a ≡ b = (bytes_eq-Decides a b).0 e in
        let never : is_lt (label_cmp a a) ≡ false = ap is_lt (tied_itself label_cmp_total a) in
        let there : label_before a a ≡ true = subst (λ (t : Text). label_before a t ≡ true) (sym same) before in
        absurd (let no : true ≡ false = sym there ∙ never in cc)

module _ {count : ℕ} {label : ℕ → Text} {block : ℕ → ℕ → Summary} (are : AreBlocks count label block) where
  same_line : (l p q : ℕ) → have_one_label (block l p) (block l q) ≡ true
  same_line l p q = ap₂ bytes_eq (are.selected l p) (are.selected l q) ∙ (bytes_eq-Decides (label l) (label l)).1 refl

  other_line : (l m p q : ℕ) → l < m → m < count → have_one_label (block l p) (block m q) ≡ false
  other_line l m p q lt below = ap₂ bytes_eq (are.selected l p) (are.selected m q) ∙ labels_apart (label l) (label m) (are.rise l m lt below)

  -- no block of the line goes with the first of these groups
  IsApart : ℕ → List (List Summary) → Type 0
  IsApart l [] = Unit {0}
  IsApart l (group ∷ more) = (p : ℕ) → goes_with have_one_label (block l p) group ≡ false

  alone : (l p : ℕ) (gs : List (List Summary)) → IsApart l gs → join have_one_label (block l p) gs ≡ (block l p ∷ []) ∷ gs
  unfolding IsApart
  alone l p [] apart = refl
  alone l p (group ∷ more) apart = rw (apart p, join) refl

  line_group : (l q : ℕ) (qs : List ℕ) (rest : List Summary) → IsApart l (groups rest) → groups (map (block l) (q ∷ qs) ++ rest) ≡ map (block l) (q ∷ qs) ∷ groups rest
  unfolding groups_by
  line_group l q [] rest apart = alone l q (groups rest) apart
  line_group l q (p ∷ qs) rest apart =
      ap (join have_one_label (block l q)) (line_group l p qs rest apart)
      ∙ rw (same_line l q p, join) refl

  module _ (q : ℕ) (qs : List ℕ) where
    apart_from : (l : ℕ) (lines : List ℕ) → AllByRecursion (λ m. nat_cmp l m ≡ Less) lines → AllByRecursion (λ m. m < count) lines → IsApart l (map (λ (m : ℕ). map (block m) (q ∷ qs)) lines)
    unfolding IsApart
    apart_from l [] up below = tt
    apart_from l (m ∷ lines) up below = λ p. other_line l m p q (less l m up.0) below.0

    pub all_groups : (lines : List ℕ) → IsStrictlySortedBy nat_cmp lines → AllByRecursion (λ m. m < count) lines → groups (blocks_at block (q ∷ qs) lines) ≡ map (λ (m : ℕ). map (block m) (q ∷ qs)) lines
    unfolding IsStrictlySortedBy groups_by
    all_groups [] up below = refl
    all_groups (l ∷ lines) up below =
        let more = all_groups lines up.1 below.1 in
        line_group l q qs (blocks_at block (q ∷ qs) lines) (subst (IsApart l) (sym more) (apart_from l lines up.0 below.1))
        ∙ ap (λ (gs : List (List Summary)). map (block l) (q ∷ qs) ∷ gs) more
