-- All blocks by label and speedup, those of one label and speedup by part, are one list, in
-- whatever order the parts are sorted.
use Rattle.std.proofs.Common.{◌≡◌, ℕ, suc, ◌+◌, ◌<◌, ◌≤◌, ◌⊎◌, inl, inr, ⊎_elim, Bool, true, false, not, cond, List, [], ◌∷◌, ◌++◌, map, flat_map, filter, length, All, Bor, Ordering, refl, sym, ap, subst, ◌∙◌, arith}
use Rattle.std.specs.Fn.{Mut, Called, ComparesAs}
use Rattle.std.specs.Cmp.{IsTotalOrder, IsStrictWeakOrder}
use Rattle.std.specs.Ordering.{is_lt, nat_cmp, ordering_then, ordering_reverse}
use Rattle.std.specs.declared.cmp.Ordering.TheVariants.{Less, Equal, Greater}
use Rattle.std.specs.List.{AllByRecursion, sum_by, count_by}
use Rattle.std.specs.List.Sorted.{IsPermutation, IsSortedBy, ties}
use Rattle.std.proofs.lemmas.Bool.{and_parts}
use Rattle.std.proofs.lemmas.Bool.Decides.{nat_tests}
use Rattle.std.proofs.lemmas.Cmp.{nat_cmp_total, on_total, then_total}
use Rattle.std.proofs.lemmas.Fn.{always_returns_same}
use Rattle.std.proofs.lemmas.List.Elements.{recursion_from_All}
use Rattle.std.proofs.lemmas.List.Sums.{sum_by-append, sum_by-cons, length-filter}
use Rattle.std.proofs.lemmas.List.Sorted.{ranks_by, sorted_far, sum_by-IsPermutation, IsPermutation-refl, IsPermutation-sym, IsPermutation-trans, IsPermutation-cons, IsPermutation-middle}
use Rattle.coz_types.specs.declared.record.Summary.{Summary}
use Rattle.profile_book.specs.declared.profile.Profile.{Profile}
use Rattle.profile_book.specs.Profile.{IsProfile, summary_before}
use Rattle.profile_labels.specs.Sorted.{put_by, sorted_by}
use Rattle.profile_labels.proofs.Sorting as sorting
use Rattle.profile_join.specs.Order.{block_cmp, tag_before, tag_cmp, comes_before}
use Rattle.profile_join.specs.Parts.{tag, tagged, numbered, tags_of, in_order}
use Rattle.profile_join.specs.declared.tagged.NumberedPart.{NumberedPart}
use Rattle.profile_join.specs.declared.tagged.Tagged.{Tagged}
use Rattle.profile_join.proofs.Among.{Among, among_moved, all_moved}
use Rattle.profile_join.proofs.Blocks.{tags_total, blocks_strict, less_by_place}
use Rattle.profile_join.proofs.Rising.{IsBelow, Rises, rises}

-- ---- the order of blocks with their parts

comes_total : IsTotalOrder tag_cmp
comes_total = then_total tags_total (on_total (λ (t : Tagged). t.part) nat_cmp_total)

comes_rank : IsStrictWeakOrder comes_before
comes_rank = ranks_by comes_total (λ (t : Tagged). t)

-- a sort by this order
pub sorted_by_part : {F : Type 0} {g : Mut F (Bor Tagged × (Bor Tagged × Unit {0})) Ordering} {f : F} (ys : List Tagged)
    → ((lt : Tagged → Tagged → Bool) → IsStrictWeakOrder lt → ComparesAs g lt f → IsSortedBy lt ys)
    → ((a : Bor Tagged × (Bor Tagged × Unit {0})) (r : Ordering) (f' : F) → Called g f a r f' → (r ≡ tag_cmp a.0.now a.1.0.now) × (f' ≡ f))
    → IsSortedBy comes_before ys
sorted_by_part {g = g} {f = f} ys sorted h =
    sorted comes_before comes_rank (always_returns_same g (λ a r. is_lt r ≡ comes_before a.0.now a.1.0.now) f (λ a r f' k. (ap is_lt (h a r f' k).0, (h a r f' k).1)))

is_less : (o : Ordering) → is_lt o ≡ true → o ≡ Less
is_less Less e = refl
is_less Equal e = absurd cc
is_less Greater e = absurd cc

comes_later : (a b c : Tagged) → comes_before a b ≡ true → comes_before b c ≡ true → comes_before a c ≡ true
comes_later a b c e f = ap is_lt (comes_total.trans a b c (is_less (tag_cmp a b) e) (is_less (tag_cmp b c) f))

by_block : (o p : Ordering) → is_lt o ≡ true → is_lt (ordering_then o p) ≡ true
by_block Less p e = refl
by_block Equal p e = absurd cc
by_block Greater p e = absurd cc

by_part : (o p : Ordering) → is_lt (ordering_reverse o) ≡ false → p ≡ Less → is_lt (ordering_then o p) ≡ true
by_part Less p e f = refl
by_part Equal p e f = ap is_lt f
by_part Greater p e f = absurd cc

-- ---- a stable sort of blocks, part by part

-- of an earlier part, or an earlier block
abbrev IsEarlier : Tagged → Tagged → Type 0
IsEarlier a b = (a.part < b.part) ⊎ (tag_before a b ≡ true)

abbrev AreEarlier : List Tagged → Type 0
AreEarlier [] = Unit {0}
AreEarlier (x ∷ xs) = AllByRecursion (IsEarlier x) xs × AreEarlier xs

comes : (x y : Tagged) → IsEarlier x y → tag_before y x ≡ false → comes_before x y ≡ true
comes x y (inl lt) low =
    let less : nat_cmp x.part y.part ≡ Less = grind (arith, nat_tests, lt) in
    by_part (block_cmp x.summary y.summary) (nat_cmp x.part y.part) (ap is_lt (sym (tags_total.antisymm y x)) ∙ low) less
comes x y (inr e) low = by_block (block_cmp x.summary y.summary) (nat_cmp x.part y.part) e

put_all : (P : Tagged → Type 0) (x : Tagged) (ys : List Tagged) → P x → AllByRecursion P ys → AllByRecursion P (put_by tag_before x ys)
put_all P x [] p all = (p, tt)
put_all P x (y ∷ ys) p all = by (tag_before y x) (put_all P x ys p all.1)
  where
    by : (b : Bool) → AllByRecursion P (put_by tag_before x ys) → AllByRecursion P (elim b [ true ↦ y ∷ put_by tag_before x ys | false ↦ x ∷ y ∷ ys ])
    by true more = (all.0, more)
    by false more = (p, all)

sorted_all : (P : Tagged → Type 0) (xs : List Tagged) → AllByRecursion P xs → AllByRecursion P (sorted_by tag_before xs)
unfolding sorted_by
sorted_all P [] all = tt
sorted_all P (x ∷ xs) all = put_all P x (sorted_by tag_before xs) all.0 (sorted_all P xs all.1)

abbrev IsFirst : Tagged → List Tagged → Type 0
IsFirst x ys = AllByRecursion (λ y. comes_before x y ≡ true) ys

-- each comes before all behind it
abbrev Come : List Tagged → Type 0
Come [] = Unit {0}
Come (x ∷ xs) = IsFirst x xs × Come xs

first_too : (x y : Tagged) (ys : List Tagged) → comes_before x y ≡ true → IsFirst y ys → IsFirst x ys
first_too x y [] e all = tt
first_too x y (z ∷ zs) e all = (comes_later x y z e all.0, first_too x y zs e all.1)

put_comes : (x : Tagged) (ys : List Tagged) → AllByRecursion (IsEarlier x) ys → Come ys → Come (put_by tag_before x ys)
put_comes x [] early come = (tt, tt)
put_comes x (y ∷ ys) early come = by (tag_before y x) refl (put_comes x ys early.1 come.1)
  where
    by : (b : Bool) → tag_before y x ≡ b → Come (put_by tag_before x ys) → Come (elim b [ true ↦ y ∷ put_by tag_before x ys | false ↦ x ∷ y ∷ ys ])
    by true e more = (put_all (λ z. comes_before y z ≡ true) x ys (by_block (block_cmp y.summary x.summary) (nat_cmp y.part x.part) e) come.0, more)
    by false e more = let first : comes_before x y ≡ true = comes x y early.0 e in ((first, first_too x y ys first come.0), come)

sorted_comes : (xs : List Tagged) → AreEarlier xs → Come (sorted_by tag_before xs)
unfolding sorted_by
sorted_comes [] early = tt
sorted_comes (x ∷ xs) early = put_comes x (sorted_by tag_before xs) (sorted_all (IsEarlier x) xs early.0) (sorted_comes xs early.1)

-- ---- the blocks of parts

from_part : (m n : ℕ) (ss : List Summary) (rest : List Tagged) → m < n → AllByRecursion (λ (t : Tagged). m < t.part) rest → AllByRecursion (λ (t : Tagged). m < t.part) (map (tag n) ss ++ rest)
from_part m n [] rest lt all = all
from_part m n (s ∷ ss) rest lt all = (lt, from_part m n ss rest lt all)

later : (m n : ℕ) (parts : List Profile) → m < n → AllByRecursion (λ (t : Tagged). m < t.part) (tagged n parts)
later m n [] lt = tt
later m n (p ∷ parts) lt = from_part m n p.summaries (tagged (suc n) parts) lt (later m (suc n) parts (omega (arith, lt)))

earlier_part : (n : ℕ) (s : Summary) (rest : List Tagged) → AllByRecursion (λ (t : Tagged). n < t.part) rest → AllByRecursion (IsEarlier (tag n s)) rest
earlier_part n s [] all = tt
earlier_part n s (t ∷ rest) all = (inl all.0, earlier_part n s rest all.1)

earlier_block : (n : ℕ) (s : Summary) (ss : List Summary) (rest : List Tagged) → IsBelow summary_before blocks_strict s ss → AllByRecursion (λ (t : Tagged). n < t.part) rest → AllByRecursion (IsEarlier (tag n s)) (map (tag n) ss ++ rest)
earlier_block n s [] rest below all = earlier_part n s rest all
earlier_block n s (t ∷ ss) rest below all = (inr (less_by_place s t below.0), earlier_block n s ss rest below.1 all)

earlier_blocks : (n : ℕ) (ss : List Summary) (rest : List Tagged) → Rises summary_before blocks_strict ss → AllByRecursion (λ (t : Tagged). n < t.part) rest → AreEarlier rest → AreEarlier (map (tag n) ss ++ rest)
earlier_blocks n [] rest up all early = early
earlier_blocks n (s ∷ ss) rest up all early = (earlier_block n s ss rest up.0 all, earlier_blocks n ss rest up.1 all early)

all_earlier : (n : ℕ) (parts : List Profile) → AllByRecursion IsProfile parts → AreEarlier (tagged n parts)
all_earlier n [] right = tt
all_earlier n (p ∷ parts) right =
    earlier_blocks n p.summaries (tagged (suc n) parts) (rises summary_before blocks_strict p.summaries right.0.blocks_rise)
    (later n (suc n) parts (omega arith)) (all_earlier (suc n) parts right.1)

-- ---- elements and how often each stands

put_moved : (x : Tagged) (ys : List Tagged) → IsPermutation (x ∷ ys) (put_by tag_before x ys)
put_moved x [] = IsPermutation-refl (x ∷ [])
put_moved x (y ∷ ys) = by (tag_before y x) (put_moved x ys)
  where
    by : (b : Bool) → IsPermutation (x ∷ ys) (put_by tag_before x ys) → IsPermutation (x ∷ y ∷ ys) (elim b [ true ↦ y ∷ put_by tag_before x ys | false ↦ x ∷ y ∷ ys ])
    by true more =
        IsPermutation-trans (x ∷ y ∷ ys) (y ∷ x ∷ ys) (y ∷ put_by tag_before x ys)
        (IsPermutation-sym (y ∷ x ∷ ys) (x ∷ y ∷ ys) (IsPermutation-middle (y ∷ []) x ys))
        (IsPermutation-cons y (x ∷ ys) (put_by tag_before x ys) more)
    by false more = IsPermutation-refl (x ∷ y ∷ ys)

-- a sorted list has the elements of the list
pub sorted_moved : (xs : List Tagged) → IsPermutation xs (sorted_by tag_before xs)
unfolding sorted_by
sorted_moved [] = IsPermutation-refl []
sorted_moved (x ∷ xs) =
    IsPermutation-trans (x ∷ xs) (x ∷ sorted_by tag_before xs) (put_by tag_before x (sorted_by tag_before xs))
    (IsPermutation-cons x xs (sorted_by tag_before xs) (sorted_moved xs)) (put_moved x (sorted_by tag_before xs))

all_numbered : (n : ℕ) (parts : List Profile) → flat_map tags_of (numbered n parts) ≡ tagged n parts
all_numbered n [] = refl
all_numbered n (p ∷ parts) = ap (λ (l : List Tagged). map (tag n) p.summaries ++ l) (all_numbered (suc n) parts)

module _ (p : Tagged → Bool) where
  abbrev times : Tagged → ℕ
  times t = cond (p t) 1 0

  count_each : (ps : List NumberedPart) → count_by p (flat_map tags_of ps) ≡ sum_by (λ q. count_by p (tags_of q)) ps
  count_each [] = refl
  count_each (q ∷ ps) =
      sum_by-append times (tags_of q) (flat_map tags_of ps)
      ∙ ap (λ (k : ℕ). count_by p (tags_of q) + k) (count_each ps)
      ∙ sym (sum_by-cons (λ r. count_by p (tags_of r)) q ps)

  count_moved : (ps qs : List NumberedPart) → IsPermutation ps qs → count_by p (flat_map tags_of qs) ≡ count_by p (flat_map tags_of ps)
  count_moved ps qs moved = count_each qs ∙ sum_by-IsPermutation (λ q. count_by p (tags_of q)) ps qs moved ∙ sym (count_each ps)

-- ---- one order

not_both : (x y : Tagged) → comes_before x y ≡ true → comes_before x y ≡ false → ⊥
not_both x y e f = let no : ◌≡◌ {A = Bool} true false = sym e ∙ f in cc

module _ (z : Tagged) where
  abbrev kept : List Tagged → List Tagged
  kept xs = filter (ties comes_before z) xs

  not_true : (b : Bool) → not b ≡ true → b ≡ false
  not_true false e = refl
  not_true true e = absurd cc

  not_tied : (x y : Tagged) → ties comes_before z x ≡ true → comes_before x y ≡ true → ties comes_before z y ≡ false
  not_tied x y tie e = by (ties comes_before z y) refl
    where
      by : (b : Bool) → ties comes_before z y ≡ b → b ≡ false
      by false d = refl
      by true d =
          let x_low = not_true (comes_before x z) (and_parts (not (comes_before z x)) (not (comes_before x z)) tie).1 in
          let y_high = not_true (comes_before z y) (and_parts (not (comes_before z y)) (not (comes_before y z)) d).0 in
          absurd (not_both x y e (comes_rank.chain x z y x_low y_high))

  none_kept : (x : Tagged) (ys : List Tagged) → ties comes_before z x ≡ true → IsFirst x ys → kept ys ≡ []
  none_kept x [] tie first = refl
  none_kept x (y ∷ ys) tie first = ap (λ (b : Bool). cond b (y ∷ kept ys) (kept ys)) (not_tied x y tie first.0) ∙ none_kept x ys tie first.1

  one_kept : (xs : List Tagged) → Come xs → length (kept xs) ≤ 1
  one_kept [] come = omega arith
  one_kept (x ∷ xs) come = by (ties comes_before z x) refl (one_kept xs come.1)
    where
      by : (b : Bool) → ties comes_before z x ≡ b → length (kept xs) ≤ 1 → length (cond b (x ∷ kept xs) (kept xs)) ≤ 1
      by true e more = let none : length (kept xs) ≡ 0 = ap length (none_kept x xs e come.0) in omega (arith, none)
      by false e more = more

  among_kept : (x : Tagged) (xs : List Tagged) → Among x xs → ties comes_before z x ≡ true → Among x (kept xs)
  among_kept x [] h tie = absurd h
  among_kept x (y ∷ ys) (inl e) tie = subst (λ (b : Bool). Among x (cond b (y ∷ kept ys) (kept ys))) (sym (ap (ties comes_before z) e ∙ tie)) (inl e)
  among_kept x (y ∷ ys) (inr h) tie = by (ties comes_before z y) (among_kept x ys h tie)
    where
      by : (b : Bool) → Among x (kept ys) → Among x (cond b (y ∷ kept ys) (kept ys))
      by true m = inr m
      by false m = m

  kept_among : (x : Tagged) (xs : List Tagged) → Among x (kept xs) → Among x xs × (ties comes_before z x ≡ true)
  kept_among x [] h = absurd h
  kept_among x (y ∷ ys) h = by (ties comes_before z y) refl h (kept_among x ys)
    where
      by : (b : Bool) → ties comes_before z y ≡ b → Among x (cond b (y ∷ kept ys) (kept ys)) → (Among x (kept ys) → Among x ys × (ties comes_before z x ≡ true)) → Among x (y ∷ ys) × (ties comes_before z x ≡ true)
      by true d (inl e) more = (inl e, subst (λ w. ties comes_before z w ≡ true) e d)
      by true d (inr m) more = let at = more m in (inr at.0, at.1)
      by false d m more = let at = more m in (inr at.0, at.1)

-- two lists of one element or none
same_short : (xs ys : List Tagged) → length xs ≤ 1 → length ys ≡ length xs → ((x : Tagged) → Among x ys → Among x xs) → ys ≡ xs
same_short [] [] le same to = refl
same_short [] (y ∷ ys) le same to = absurd (omega (arith, same))
same_short (x ∷ []) [] le same to = absurd (omega (arith, same))
same_short (x ∷ []) (y ∷ []) le same to = ⊎_elim (λ e. ap (λ (t : Tagged). t ∷ []) (sym e)) (λ h. absurd h) (to y (inl refl))
same_short (x ∷ []) (y ∷ w ∷ ys) le same to = absurd (omega (arith, same))
same_short (x ∷ w ∷ xs) ys le same to = absurd (omega (arith, le))

first_of : (x : Tagged) (ys : List Tagged) → IsFirst x ys → sorting.IsFirst comes_before comes_rank x ys
first_of x [] first = tt
first_of x (y ∷ ys) first = (comes_rank.one_way x y first.0, first_of x ys first.1)

come_rise : (xs : List Tagged) → Come xs → sorting.Rises comes_before comes_rank xs
come_rise [] come = tt
come_rise (x ∷ xs) come = (first_of x xs come.0, come_rise xs come.1)

-- a sorted list with the elements of one in which each comes before all behind it
one_order : (xs ys : List Tagged) → Come xs → IsSortedBy comes_before ys → ((p : Tagged → Bool) → count_by p ys ≡ count_by p xs) → ((x : Tagged) → Among x ys → Among x xs) → ys ≡ xs
one_order xs ys come up counts to =
    sorting.one comes_before comes_rank ys xs (sorting.rises_by_place comes_before comes_rank ys (sorted_far comes_before comes_rank ys up)) (come_rise xs come)
    (λ z. same_short (kept z xs) (kept z ys) (one_kept z xs come)
    (length-filter (ties comes_before z) ys ∙ counts (ties comes_before z) ∙ sym (length-filter (ties comes_before z) xs))
    (λ x h. let at = kept_among z x ys h in among_kept z x xs (to x at.0) at.1))

-- what is sorted of the parts in any order is in order
pub is_in_order : (parts : List Profile) → All IsProfile parts → (others : List NumberedPart) → IsPermutation (numbered 0 parts) others → (ys : List Tagged) → IsPermutation (flat_map tags_of others) ys → IsSortedBy comes_before ys → ys ≡ in_order parts
unfolding in_order
is_in_order parts right others moved ys shuffled up =
    let xs : List Tagged = tagged 0 parts in
    let placed = sorted_moved xs in
    let all : flat_map tags_of (numbered 0 parts) ≡ xs = all_numbered 0 parts in
    one_order (sorted_by tag_before xs) ys (sorted_comes xs (all_earlier 0 parts (recursion_from_All IsProfile parts right))) up
    (λ p. sum_by-IsPermutation (times p) (flat_map tags_of others) ys shuffled
    ∙ count_moved p (numbered 0 parts) others moved
    ∙ ap (count_by p) all
    ∙ sym (sum_by-IsPermutation (times p) xs (sorted_by tag_before xs) placed))
    (λ x h. among_moved xs (sorted_by tag_before xs) x placed
    (subst (Among x) all
    (all_moved tags_of others (numbered 0 parts) x (IsPermutation-sym (numbered 0 parts) others moved)
    (among_moved ys (flat_map tags_of others) x (IsPermutation-sym (flat_map tags_of others) ys shuffled) h))))
