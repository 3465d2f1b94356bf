-- A line has no more runs than speedups.
use Rattle.std.proofs.Common.{◌≡◌, ℕ, ◌+◌, ◌<◌, ◌≤◌, Bool, true, false, ◌||◌, ◌&&◌, nat_lt, List, [], ◌∷◌, length, bytes_eq, refl, sym, ap, subst, ◌∙◌, arith, rules}
use Rattle.std.specs.List.{AllByRecursion}
use Rattle.std.specs.Ordering.{is_lt}
use Rattle.std.proofs.lemmas.Bool.{and_parts}
use Rattle.std.proofs.lemmas.Cmp.{tied_itself}
use Rattle.std.proofs.lemmas.Slice.Eq.{bytes_eq-Decides}
use Rattle.coz_types.specs.Labels.{Text, label_before}
use Rattle.coz_types.specs.Ranges.{IsSummary}
use Rattle.coz_types.specs.declared.record.Summary.{Summary}
use Rattle.profile_book.specs.Profile.{is_rising, summary_before}
use Rattle.profile_labels.specs.Groups.{goes_with, join, groups_by, groups, have_one_label}
use Rattle.profile_labels.specs.LabelOrder.{label_cmp}
use Rattle.profile_labels.proofs.LabelOrder.{label_cmp_total}
use Rattle.profile_labels.proofs.FirstGroups.{joined, apart}
use Rattle.average_curves.specs.Curves.{IsShort}

-- a label is not before itself
labels_apart : (a b : Text) → bytes_eq a b ≡ true → label_before a b ≡ false
labels_apart a b e =
    let same : a ≡ b = (bytes_eq-Decides a b).0 e in
    let never : is_lt (label_cmp a a) ≡ false = ap is_lt (tied_itself label_cmp_total a) in
    subst (λ (t : Text). label_before a t ≡ false) same never

later : (p q r : Bool) → p ≡ false → (p || (q && r)) ≡ true → r ≡ true
later p q r e is = (and_parts q r (sym (ap (λ (b : Bool). b || (q && r)) e) ∙ is)).1

faster : (s t : Summary) → have_one_label s t ≡ true → summary_before s t ≡ true → s.speedup < t.speedup
faster s t same before =
    let less : nat_lt s.speedup t.speedup ≡ true = later (label_before s.selected t.selected) (bytes_eq s.selected t.selected) (nat_lt s.speedup t.speedup) (labels_apart s.selected t.selected same) before in
    search (rules, less)

-- the runs and the speedup of the first of them are few
abbrev IsTight : List Summary → Type 0
IsTight [] = Unit {0}
IsTight (s ∷ group) = length (s ∷ group) + s.speedup ≤ 96

-- the first group begins with the first run
begins : (y : Summary) (rest : List Summary) → (group : List Summary) × (others : List (List Summary)) × (groups (y ∷ rest) ≡ (y ∷ group) ∷ others)
unfolding groups_by
begins y rest = by (groups rest)
  where
    by : (gs : List (List Summary)) → (group : List Summary) × (others : List (List Summary)) × (join have_one_label y gs ≡ (y ∷ group) ∷ others)
    by [] = ([], [], refl)
    by (g ∷ gs) = or (goes_with have_one_label y g) refl
      where
        or : (c : Bool) → goes_with have_one_label y g ≡ c → (group : List Summary) × (others : List (List Summary)) × (join have_one_label y (g ∷ gs) ≡ (y ∷ group) ∷ others)
        or true e = (g, gs, joined have_one_label y g gs e)
        or false e = ([], g ∷ gs, apart have_one_label y g gs e)

tight : (points : ℕ) (xs : List Summary) → is_rising summary_before xs ≡ true → AllByRecursion (IsSummary points) xs → AllByRecursion IsTight (groups xs)
unfolding groups_by
tight points [] up all = tt
tight points (x ∷ []) up all = let slow : x.speedup ≤ 95 = all.0.speedup in (omega (arith, slow), tt)
tight points (x ∷ y ∷ rest) up all =
    let both = and_parts (summary_before x y) (is_rising summary_before (y ∷ rest)) up in
    let b = begins y rest in
    let more : AllByRecursion IsTight ((y ∷ b.0) ∷ b.1) = subst (AllByRecursion IsTight) b.2 (tight points (y ∷ rest) both.1 all.1) in
    subst (λ (gs : List (List Summary)). AllByRecursion IsTight (join have_one_label x gs)) (sym b.2) (by b.0 b.1 both.0 more (have_one_label x y) refl)
  where
    by : (group : List Summary) (others : List (List Summary)) → summary_before x y ≡ true → AllByRecursion IsTight ((y ∷ group) ∷ others) → (c : Bool) → have_one_label x y ≡ c → AllByRecursion IsTight (join have_one_label x ((y ∷ group) ∷ others))
    by group others before more true e =
        let less = faster x y e before in
        let few : length (y ∷ group) + y.speedup ≤ 96 = more.0 in
        subst (AllByRecursion IsTight) (sym (joined have_one_label x (y ∷ group) others e)) (omega (arith, less, few), more.1)
    by group others before more false e =
        let slow : x.speedup ≤ 95 = all.0.speedup in
        subst (AllByRecursion IsTight) (sym (apart have_one_label x (y ∷ group) others e)) (omega (arith, slow), more)

short_of : (groups_of : List (List Summary)) → AllByRecursion IsTight groups_of → AllByRecursion IsShort groups_of
short_of [] all = tt
short_of ([] ∷ gs) all = (omega arith, short_of gs all.1)
short_of ((s ∷ group) ∷ gs) all = let few : length (s ∷ group) + s.speedup ≤ 96 = all.0 in (omega (arith, few), short_of gs all.1)

pub lines_short : (points : ℕ) (xs : List Summary) → is_rising summary_before xs ≡ true → AllByRecursion (IsSummary points) xs → AllByRecursion IsShort (groups xs)
lines_short points xs up all = short_of (groups xs) (tight points xs up all)
