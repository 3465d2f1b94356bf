-- Numbers as they rise, each once: what sorting and dropping repeats gives, and how many there can be.
use Rattle.std.proofs.Common.{◌≡◌, ℕ, zero, suc, ◌+◌, ◌<◌, ◌≤◌, inl, inr, Bool, true, List, [], ◌∷◌, length, map, get_or, Ordering, Contains, refl, sym, ◌∙◌, subst, arith}
use Rattle.std.specs.declared.cmp.Ordering.TheVariants.{Less}
use Rattle.std.specs.Ordering.{nat_cmp, eq_by_cmp}
use Rattle.std.specs.Cmp.{nat_cmp_total, on_total, unsigned_ties}
use Rattle.std.specs.FinMap.{nat_cmp-IsAntisymmetric}
use Rattle.std.specs.List.Retain.{IsFiltered, DiffersFromLast}
use Rattle.std.specs.List.Sorted.{IsSorted, IsPermutation, IsStrictlySortedBy}
use Rattle.std.proofs.lemmas.Bool.{eqb-true}
use Rattle.std.proofs.lemmas.Cmp.{ranked}
use Rattle.std.proofs.lemmas.Map.Keys.{sorted_head, sorted_tail, Less-from_sorted}
use Rattle.line_index.proofs.Distinct.{IsDistinctOf, distinct}
use Rattle.line_index.proofs.Order.{sorted_map}
use Rattle.line_index.proofs.Ordered.{in_order_sorted, of_in_order, to_in_order, same_sorted}
use Rattle.line_index.proofs.Pieces.{Among, to_among, from_among, among_map, among_mapped}
use Rattle.experiment_plan.specs.Selected.{rising_numbers}
use Rattle.experiment_plan.proofs.Among.{each_among}

contained : {X : Type 0} (x : X) (xs : List X) → Contains xs x → Among x xs
contained x xs h = to_among x xs h.0 h.1 h.2

module _ {X : Type 0} (f : X → ℕ) where
  -- by the number of each
  abbrev pub by_number : X → X → Ordering
  by_number x y = nat_cmp (f x) (f y)

  tied : (x y : X) → eq_by_cmp by_number x y ≡ true → f x ≡ f y
  tied x y e = eqb-true (f x) (f y) (unsigned_ties (f x) (f y) ∙ e)

  into : (xs ys : List X) → IsDistinctOf by_number xs ys → (n : ℕ) → Among n (map f ys) → Among n (rising_numbers (map f xs))
  into xs ys h n m =
      let one = among_mapped f n ys m in
      let there : Among one.0 xs = contained one.0 xs (h.from one.0 (from_among one.0 ys one.1)) in
      to_in_order nat_cmp_total nat_cmp-IsAntisymmetric n (map f xs) (subst (λ k. Among k (map f xs)) one.2 (among_map f one.0 xs there))

  out_of : (xs ys : List X) → IsDistinctOf by_number xs ys → (n : ℕ) → Among n (rising_numbers (map f xs)) → Among n (map f ys)
  out_of xs ys h n m =
      let one = among_mapped f n xs (of_in_order nat_cmp_total n (map f xs) m) in
      let there = h.kept one.0 (from_among one.0 xs one.1) in
      let found : Among there.1 ys = to_among there.1 ys there.0 there.2 there.3 in
      subst (λ k. Among k (map f ys)) (sym (tied one.0 there.1 there.4) ∙ one.2) (among_map f there.1 ys found)

  pub rising_of : (E : X → X → Bool) (ties : (x y : X) → E x y ≡ eq_by_cmp by_number x y) (xs zs ys : List X) → IsPermutation xs zs → IsSorted by_number zs → IsFiltered (DiffersFromLast E) [] zs ys → map f ys ≡ rising_numbers (map f xs)
  rising_of E ties xs zs ys moved sorted filtered =
      let h = distinct (on_total f nat_cmp_total) E ties xs zs ys moved sorted filtered in
      same_sorted nat_cmp_total (map f ys) (rising_numbers (map f xs)) (sorted_map f nat_cmp ys h.in_order) (in_order_sorted nat_cmp_total (map f xs)) (into xs ys h) (out_of xs ys h)

pub rises : (ns : List ℕ) → IsStrictlySortedBy nat_cmp (rising_numbers ns)
rises ns = in_order_sorted nat_cmp_total ns

-- no number is lost
pub to_rising : (n : ℕ) (ns : List ℕ) → Among n ns → Among n (rising_numbers ns)
to_rising n ns m = to_in_order nat_cmp_total nat_cmp-IsAntisymmetric n ns m

not_empty : (n : ℕ) (ns : List ℕ) → Among n ns → 0 < length ns
not_empty n [] m = absurd m
not_empty n (k ∷ ns) m = omega arith

pub some_rise : (n : ℕ) (ns : List ℕ) → 0 < length (rising_numbers (n ∷ ns))
some_rise n ns = not_empty n (rising_numbers (n ∷ ns)) (to_rising n (n ∷ ns) (inl refl))

pub of_rising : (n : ℕ) (ns : List ℕ) → Among n (rising_numbers ns) → Among n ns
of_rising n ns m = of_in_order nat_cmp_total n ns m

pub less : (n m : ℕ) → nat_cmp n m ≡ Less → n < m
less n m e = ranked n m Less (sym e)

-- rising numbers from `low` on and below `most` are no more than these
pub few : (low most : ℕ) (ns : List ℕ) → IsStrictlySortedBy nat_cmp ns → ((n : ℕ) → Among n ns → (low ≤ n) × (n < most)) → low ≤ most → low + length ns ≤ most
few low most [] up within le = omega (arith, le)
few low most (n ∷ ns) up within le =
    let head = within n (inl refl) in
    let rest = few (suc n) most ns (sorted_tail nat_cmp n ns up) (λ m h. (less n m (each_among (λ y. nat_cmp n y ≡ Less) m ns (sorted_head nat_cmp n ns up) h), (within m (inr h)).1)) (omega (arith, head.1)) in
    omega (arith, head.0, rest)

-- the number at each place is no less than the place
pub at_least : (ns : List ℕ) → IsStrictlySortedBy nat_cmp ns → (k d : ℕ) → k < length ns → k ≤ get_or ns k d
at_least ns up zero d lt = omega arith
at_least ns up (suc k) d lt =
    let before = at_least ns up k d (omega arith) in
    let step = less (get_or ns k d) (get_or ns (suc k) d) (Less-from_sorted nat_cmp ns k (suc k) d up (omega arith) lt) in
    omega arith
