-- The order of blocks in a profile is strict.
use Rattle.std.proofs.Common.{◌≡◌, ℕ, Bool, true, false, ◌&&◌, ◌||◌, nat_lt, ◌⊎◌, inl, inr, refl, sym, ap, subst, ◌∙◌, arith}
use Rattle.std.specs.Str.{bytes_eq}
use Rattle.std.specs.Cmp.{IsTotalOrder, IsStrictWeakOrder}
use Rattle.std.specs.Ordering.{is_lt, nat_cmp, ordering_then}
use Rattle.std.specs.declared.cmp.Ordering.{Ordering}
use Rattle.std.specs.declared.cmp.Ordering.TheVariants.{Less, Equal, Greater}
use Rattle.std.proofs.lemmas.Bool.{and_parts}
use Rattle.std.proofs.lemmas.Bool.Decides.{nat_tests}
use Rattle.std.proofs.lemmas.Cmp.{nat_cmp_total, on_total, then_total, tied_itself}
use Rattle.std.proofs.lemmas.List.Sorted.{ranks_by}
use Rattle.std.proofs.lemmas.Slice.Eq.{bytes_eq-Decides}
use Rattle.coz_types.specs.Labels.{Text, is_label, label_before}
use Rattle.coz_types.specs.declared.record.Summary.{Summary}
use Rattle.profile_book.specs.Profile.{summary_before}
use Rattle.profile_labels.specs.LabelOrder.{label_cmp}
use Rattle.profile_labels.proofs.LabelOrder.{label_cmp_total, tied_are_one}
use Rattle.profile_join.specs.Order.{block_cmp, tag_before}
use Rattle.profile_join.specs.declared.tagged.Tagged.{Tagged}
use Rattle.profile_join.proofs.Rising.{IsStrict}

pub blocks_total : IsTotalOrder block_cmp
blocks_total = then_total (on_total (λ (s : Summary). s.selected) label_cmp_total) (on_total (λ (s : Summary). s.speedup) nat_cmp_total)

pub tags_total : IsTotalOrder (λ (a b : Tagged). block_cmp a.summary b.summary)
tags_total = on_total (λ (t : Tagged). t.summary) blocks_total

pub tags_rank : IsStrictWeakOrder tag_before
tags_rank = ranks_by blocks_total (λ (t : Tagged). t.summary)

is_less : (o : Ordering) → is_lt o ≡ true → o ≡ Less
is_less Less e = refl
is_less Equal e = absurd cc
is_less Greater e = absurd cc

-- by label, or by speedup if the labels are one
parts_of : (p q r : Bool) → (p || (q && r)) ≡ true → (p ≡ true) ⊎ ((q ≡ true) × (r ≡ true))
parts_of true q r e = inl refl
parts_of false q r e = inr (and_parts q r e)

by_label : (p x : Bool) → p ≡ true → (p || x) ≡ true
by_label true x e = refl
by_label false x e = absurd cc

by_speedup : (p q r : Bool) → q ≡ true → r ≡ true → (p || (q && r)) ≡ true
by_speedup true q r e f = refl
by_speedup false true true e f = refl
by_speedup false true false e f = absurd cc
by_speedup false false r e f = absurd cc

neither : (p q r : Bool) → p ≡ false → r ≡ false → (p || (q && r)) ≡ false
neither true q r e f = absurd cc
neither false true true e f = absurd cc
neither false true false e f = refl
neither false false r e f = refl

lower : (n m k : ℕ) → nat_lt n m ≡ true → nat_lt m k ≡ true → nat_lt n k ≡ true
lower n m k a b = grind (arith, nat_tests)

not_lower : (n : ℕ) → nat_lt n n ≡ false
not_lower n = grind (arith, nat_tests)

-- the order of profiles is strict
pub blocks_strict : IsStrict summary_before
blocks_strict = record { itself = itself; chain = chain }
  where
    itself : (a : Summary) → summary_before a a ≡ false
    itself a = neither (label_before a.selected a.selected) (bytes_eq a.selected a.selected) (nat_lt a.speedup a.speedup) (ap is_lt (tied_itself label_cmp_total a.selected)) (not_lower a.speedup)

    chain : (a b c : Summary) → summary_before a b ≡ true → summary_before b c ≡ true → summary_before a c ≡ true
    chain a b c e f = go (parts_of (label_before a.selected b.selected) (bytes_eq a.selected b.selected) (nat_lt a.speedup b.speedup) e) (parts_of (label_before b.selected c.selected) (bytes_eq b.selected c.selected) (nat_lt b.speedup c.speedup) f)
      where
        one : (s t : Text) → bytes_eq s t ≡ true → s ≡ t
        one s t is = (bytes_eq-Decides s t).0 is

        go : (label_before a.selected b.selected ≡ true) ⊎ ((bytes_eq a.selected b.selected ≡ true) × (nat_lt a.speedup b.speedup ≡ true)) → (label_before b.selected c.selected ≡ true) ⊎ ((bytes_eq b.selected c.selected ≡ true) × (nat_lt b.speedup c.speedup ≡ true)) → summary_before a c ≡ true
        go (inl x) (inl y) = by_label (label_before a.selected c.selected) (bytes_eq a.selected c.selected && nat_lt a.speedup c.speedup) (ap is_lt (label_cmp_total.trans a.selected b.selected c.selected (is_less (label_cmp a.selected b.selected) x) (is_less (label_cmp b.selected c.selected) y)))
        go (inl x) (inr y) = by_label (label_before a.selected c.selected) (bytes_eq a.selected c.selected && nat_lt a.speedup c.speedup) (subst (λ t. label_before a.selected t ≡ true) (one b.selected c.selected y.0) x)
        go (inr x) (inl y) = by_label (label_before a.selected c.selected) (bytes_eq a.selected c.selected && nat_lt a.speedup c.speedup) (subst (λ t. label_before t c.selected ≡ true) (sym (one a.selected b.selected x.0)) y)
        go (inr x) (inr y) = by_speedup (label_before a.selected c.selected) (bytes_eq a.selected c.selected) (nat_lt a.speedup c.speedup) (subst (λ t. bytes_eq a.selected t ≡ true) (one b.selected c.selected y.0) x.0) (lower a.speedup b.speedup c.speedup x.1 y.1)

-- if a block is less by its order, it comes before in a profile
pub before_by_order : (s t : Summary) → is_label s.selected ≡ true → is_label t.selected ≡ true → is_lt (block_cmp s t) ≡ true → summary_before s t ≡ true
before_by_order s t right other less = go (label_cmp s.selected t.selected) refl (is_less (block_cmp s t) less)
  where
    go : (o : Ordering) → label_cmp s.selected t.selected ≡ o → block_cmp s t ≡ Less → summary_before s t ≡ true
    go Less e less = by_label (label_before s.selected t.selected) (bytes_eq s.selected t.selected && nat_lt s.speedup t.speedup) (ap is_lt e)
    go Equal e less =
        let speedups : nat_cmp s.speedup t.speedup ≡ Less = sym (ap (λ o. ordering_then o (nat_cmp s.speedup t.speedup)) e) ∙ less in
        by_speedup (label_before s.selected t.selected) (bytes_eq s.selected t.selected) (nat_lt s.speedup t.speedup)
        ((bytes_eq-Decides s.selected t.selected).1 (tied_are_one s.selected t.selected right other e))
        (grind (arith, nat_tests, speedups))
    go Greater e less = absurd (let no : ◌≡◌ {A = Ordering} Greater Less = sym (ap (λ o. ordering_then o (nat_cmp s.speedup t.speedup)) e) ∙ less in cc)

-- if a block comes before in a profile, it is less by its order
pub less_by_place : (s t : Summary) → summary_before s t ≡ true → is_lt (block_cmp s t) ≡ true
less_by_place s t e = go (parts_of (label_before s.selected t.selected) (bytes_eq s.selected t.selected) (nat_lt s.speedup t.speedup) e)
  where
    go : (label_before s.selected t.selected ≡ true) ⊎ ((bytes_eq s.selected t.selected ≡ true) × (nat_lt s.speedup t.speedup ≡ true)) → is_lt (block_cmp s t) ≡ true
    go (inl x) = ap (λ o. is_lt (ordering_then o (nat_cmp s.speedup t.speedup))) (is_less (label_cmp s.selected t.selected) x)
    go (inr x) =
        let same : s.selected ≡ t.selected = (bytes_eq-Decides s.selected t.selected).0 x.0 in
        let lower = x.1 in
        let less : nat_cmp s.speedup t.speedup ≡ Less = grind (arith, nat_tests, lower) in
        ap (λ u. is_lt (ordering_then (label_cmp s.selected u) (nat_cmp s.speedup t.speedup))) (sym same)
        ∙ ap (λ o. is_lt (ordering_then o (nat_cmp s.speedup t.speedup))) (tied_itself label_cmp_total s.selected)
        ∙ ap is_lt less
