-- Of the blocks of lists of lines, those of one line and speedup: one for each list that has it.
use Rattle.std.proofs.Common.{◌≡◌, ℕ, suc, ◌<◌, Bool, true, false, ◌==◌, ◌||◌, if◌then◌else◌, inl, inr, List, [], ◌∷◌, ◌++◌, map, filter, Ordering, refl, sym, ap, ap₂, subst, ◌∙◌, arith}
use Rattle.std.specs.List.{AllByRecursion, list_any}
use Rattle.std.specs.List.Sorted.{IsStrictlySortedBy, ties}
use Rattle.std.specs.Ordering.{is_lt, is_eq, nat_cmp, ordering_then, ordering_reverse, MatchOrdering}
use Rattle.std.specs.declared.cmp.Ordering.TheVariants.{Less, Equal, Greater}
use Rattle.std.proofs.lemmas.Bool.{eqb-true, eqb-false}
use Rattle.std.proofs.lemmas.Bool.Decides.{nat_tests}
use Rattle.std.proofs.lemmas.Cmp.{nat_cmp_total, ranked, tied_itself}
use Rattle.std.proofs.lemmas.List.{map-append}
use Rattle.std.proofs.lemmas.List.Elements.{filter-append}
use Rattle.coz_types.specs.Labels.{Text}
use Rattle.coz_types.specs.declared.record.Summary.{Summary}
use Rattle.profile_labels.specs.LabelOrder.{label_cmp}
use Rattle.profile_labels.proofs.LabelOrder.{label_cmp_total}
use Rattle.profile_join.specs.Order.{block_cmp, tag_before}
use Rattle.profile_join.specs.Parts.{tag, tagged}
use Rattle.profile_join.specs.declared.tagged.Tagged.{Tagged}
use Rattle.profile_join.proofs.Among.{Among, one_of}
use Rattle.profile_shards.specs.Shards.{AreBlocks, blocks_at, profile_at, holders}
use Rattle.profile_shards.proofs.Ties.{alike_ties, keeps, leaves}

is_less : (o : Ordering) → is_lt o ≡ true → o ≡ Less
is_less Less e = refl
is_less Equal e = absurd cc
is_less Greater e = absurd cc

-- lines that rise, all below this number
pub record Right (count : ℕ) (lines : List ℕ) : Type 0 where
  pub rise : IsStrictlySortedBy nat_cmp lines
  pub below : AllByRecursion (λ line. line < count) lines

-- the greater lines aren't this one
not_any : (m : ℕ) (lines : List ℕ) → AllByRecursion (λ line. nat_cmp m line ≡ Less) lines → list_any (λ line. line == m) lines ≡ false
not_any m [] all = refl
not_any m (l ∷ lines) all =
    let less = all.0 in
    let other : (l == m) ≡ false = grind (arith, nat_tests, less) in
    ap₂ (λ a b. a || b) other (not_any m lines all.1)

module _ {count : ℕ} {label : ℕ → Text} {block : ℕ → ℕ → Summary} (are : AreBlocks count label block) where
  labels_less : (l m : ℕ) → l < m → m < count → label_cmp (label l) (label m) ≡ Less
  labels_less l m lt few = is_less (label_cmp (label l) (label m)) (are.rise l m lt few)

  -- labels are in the order of their lines
  pub labels_cmp : (l m : ℕ) → l < count → m < count → label_cmp (label l) (label m) ≡ nat_cmp l m
  labels_cmp l m few few' = go (nat_cmp l m) (ranked l m (nat_cmp l m) refl)
    where
      go : (o : Ordering) → MatchOrdering o (l < m) (l ≡ m) (m < l) → label_cmp (label l) (label m) ≡ o
      go Less lt = labels_less l m lt few'
      go Equal same = ap (λ k. label_cmp (label l) (label k)) (sym same) ∙ tied_itself label_cmp_total (label l)
      go Greater gt = label_cmp_total.antisymm (label l) (label m) ∙ ap ordering_reverse (labels_less m l gt few)

  -- blocks by line, then by speedup
  pub blocks_cmp : (l m q p : ℕ) → l < count → m < count → block_cmp (block l q) (block m p) ≡ ordering_then (nat_cmp l m) (nat_cmp q p)
  blocks_cmp l m q p few few' =
      ap₂ (λ a b. ordering_then (label_cmp a b) (nat_cmp (block l q).speedup (block m p).speedup)) (are.selected l q) (are.selected m p)
      ∙ ap₂ (λ a b. ordering_then (label_cmp (label l) (label m)) (nat_cmp a b)) (are.speedup l q) (are.speedup m p)
      ∙ ap (λ o. ordering_then o (nat_cmp q p)) (labels_cmp l m few few')

  module _ (i m q : ℕ) (few : m < count) where
    abbrev z : Tagged
    z = tag i (block m q)

    abbrev kept : List Tagged → List Tagged
    kept xs = filter (ties tag_before z) xs

    tie : (j l p : ℕ) → l < count → ties tag_before z (tag j (block l p)) ≡ is_eq (ordering_then (nat_cmp m l) (nat_cmp q p))
    tie j l p few' = alike_ties z (tag j (block l p)) ∙ ap is_eq (blocks_cmp m l q p few few')

    tie_same : (j p : ℕ) → ties tag_before z (tag j (block m p)) ≡ is_eq (nat_cmp q p)
    tie_same j p = tie j m p few ∙ ap (λ o. is_eq (ordering_then o (nat_cmp q p))) (tied_itself nat_cmp_total m)

    tie_other : (j l p : ℕ) → l < count → (m ≡ l → ⊥) → ties tag_before z (tag j (block l p)) ≡ false
    tie_other j l p few' never = tie j l p few' ∙ go (nat_cmp m l) (ranked m l (nat_cmp m l) refl)
      where
        go : (o : Ordering) → MatchOrdering o (m < l) (m ≡ l) (l < m) → is_eq (ordering_then o (nat_cmp q p)) ≡ false
        go Less lt = refl
        go Equal same = absurd (never same)
        go Greater gt = refl

    none_of_line : (j l : ℕ) (ps : List ℕ) → l < count → (m ≡ l → ⊥) → kept (map (tag j) (map (block l) ps)) ≡ []
    none_of_line j l [] few' never = refl
    none_of_line j l (p ∷ ps) few' never = leaves z (tag j (block l p)) (map (tag j) (map (block l) ps)) (tie_other j l p few' never) ∙ none_of_line j l ps few' never

    none_behind : (j : ℕ) (ps : List ℕ) → AllByRecursion (λ p. nat_cmp q p ≡ Less) ps → kept (map (tag j) (map (block m) ps)) ≡ []
    none_behind j [] all = refl
    none_behind j (p ∷ ps) all = leaves z (tag j (block m p)) (map (tag j) (map (block m) ps)) (tie_same j p ∙ ap is_eq all.0) ∙ none_behind j ps all.1

    one_of_line : (j : ℕ) (ps : List ℕ) → IsStrictlySortedBy nat_cmp ps → Among q ps → kept (map (tag j) (map (block m) ps)) ≡ tag j (block m q) ∷ []
    unfolding IsStrictlySortedBy
    one_of_line j [] up h = absurd h
    one_of_line j (p ∷ ps) up (inl e) =
        keeps z (tag j (block m p)) (map (tag j) (map (block m) ps)) (tie_same j p ∙ ap (λ n. is_eq (nat_cmp q n)) e ∙ ap is_eq (tied_itself nat_cmp_total q))
        ∙ ap₂ (λ n (xs : List Tagged). tag j (block m n) ∷ xs) e (none_behind j ps (subst (λ n. AllByRecursion (λ k. nat_cmp n k ≡ Less) ps) e up.0))
    one_of_line j (p ∷ ps) up (inr h) =
        let less : nat_cmp p q ≡ Less = one_of (λ k. nat_cmp p k ≡ Less) q ps up.0 h in
        leaves z (tag j (block m p)) (map (tag j) (map (block m) ps)) (tie_same j p ∙ ap is_eq (nat_cmp_total.antisymm q p ∙ ap ordering_reverse less))
        ∙ one_of_line j ps up.1 h

    module _ (qs : List ℕ) (rising : IsStrictlySortedBy nat_cmp qs) (there : Among q qs) where
      -- what is kept of the blocks of a list that has the line or not
      abbrev kept_if : ℕ → Bool → List Tagged
      kept_if j b = if b then tag j (block m q) ∷ [] else []

      split : (j l : ℕ) (lines : List ℕ) → kept (map (tag j) (blocks_at block qs (l ∷ lines))) ≡ kept (map (tag j) (map (block l) qs)) ++ kept (map (tag j) (blocks_at block qs lines))
      split j l lines =
          ap kept (map-append (tag j) (map (block l) qs) (blocks_at block qs lines))
          ∙ filter-append (ties tag_before z) (map (tag j) (map (block l) qs)) (map (tag j) (blocks_at block qs lines))

      pub held : (j : ℕ) (lines : List ℕ) → IsStrictlySortedBy nat_cmp lines → AllByRecursion (λ line. line < count) lines → kept (map (tag j) (blocks_at block qs lines)) ≡ kept_if j (list_any (λ line. line == m) lines)
      unfolding IsStrictlySortedBy
      held j [] up below = refl
      held j (l ∷ lines) up below = split j l lines ∙ by (l == m) refl (held j lines up.1 below.1)
        where
          by : (b : Bool) → (l == m) ≡ b → kept (map (tag j) (blocks_at block qs lines)) ≡ kept_if j (list_any (λ line. line == m) lines)
              → kept (map (tag j) (map (block l) qs)) ++ kept (map (tag j) (blocks_at block qs lines)) ≡ kept_if j (list_any (λ line. line == m) (l ∷ lines))
          by true e more =
              let same : l ≡ m = eqb-true l m e in
              let others : list_any (λ line. line == m) lines ≡ false = not_any m lines (subst (λ n. AllByRecursion (λ line. nat_cmp n line ≡ Less) lines) same up.0) in
              ap₂ (λ (a b : List Tagged). a ++ b) (ap (λ n. kept (map (tag j) (map (block n) qs))) same ∙ one_of_line j qs rising there) (more ∙ ap (kept_if j) others)
              ∙ sym (ap (λ c. kept_if j (c || list_any (λ line. line == m) lines)) e)
          by false e more =
              ap (λ (a : List Tagged). a ++ kept (map (tag j) (blocks_at block qs lines))) (none_of_line j l qs below.0 (λ same. eqb-false l m e (sym same)))
              ∙ more
              ∙ sym (ap (λ c. kept_if j (c || list_any (λ line. line == m) lines)) e)

      -- the blocks of the line and the speedup in all parts: one for each list that has the line
      pub held_all : (budget : ℕ) (points : List Text) (n : ℕ) (lists : List (List ℕ)) → AllByRecursion (Right count) lists → kept (tagged n (map (profile_at budget points block qs) lists)) ≡ map (λ j. tag j (block m q)) (holders m n lists)
      held_all budget points n [] right = refl
      held_all budget points n (lines ∷ lists) right =
          filter-append (ties tag_before z) (map (tag n) (blocks_at block qs lines)) (tagged (suc n) (map (profile_at budget points block qs) lists))
          ∙ ap₂ (λ (a b : List Tagged). a ++ b) (held n lines right.0.rise right.0.below) (held_all budget points (suc n) lists right.1)
          ∙ by (list_any (λ line. line == m) lines)
        where
          by : (b : Bool) → kept_if n b ++ map (λ j. tag j (block m q)) (holders m (suc n) lists) ≡ map (λ j. tag j (block m q)) (if b then n ∷ holders m (suc n) lists else holders m (suc n) lists)
          by true = refl
          by false = refl
