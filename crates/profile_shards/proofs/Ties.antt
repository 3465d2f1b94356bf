-- In a sorted list of blocks those that tie are neighbours.
use Rattle.std.proofs.Common.{◌≡◌, ◌≤◌, Bool, true, false, not, ◌&&◌, cond, if◌then◌else◌, List, [], ◌∷◌, length, filter, Option, Some, None, refl, sym, ap, subst, ◌∙◌, arith}
use Rattle.std.specs.List.Sorted.{ties}
use Rattle.std.specs.Ordering.{is_lt, is_eq, ordering_reverse}
use Rattle.std.specs.declared.cmp.Ordering.{Ordering}
use Rattle.std.specs.declared.cmp.Ordering.TheVariants.{Less, Equal, Greater}
use Rattle.profile_labels.proofs.Sorting.{IsFirst, Rises, self}
use Rattle.profile_join.specs.Order.{block_cmp, tag_before, are_alike}
use Rattle.profile_join.specs.Parts.{first_alike}
use Rattle.profile_join.specs.declared.tagged.Tagged.{Tagged}
use Rattle.profile_join.proofs.Blocks.{blocks_total, tags_rank}

-- ---- the order

tie_of : (o : Ordering) → is_eq o ≡ (not (is_lt o) && not (is_lt (ordering_reverse o)))
tie_of Less = refl
tie_of Equal = refl
tie_of Greater = refl

pub alike_ties : (a b : Tagged) → ties tag_before a b ≡ are_alike a b
alike_ties a b =
    ap (λ o. not (is_lt (block_cmp a.summary b.summary)) && not (is_lt o)) (blocks_total.antisymm b.summary a.summary)
    ∙ sym (tie_of (block_cmp a.summary b.summary))

yes_or_no : (b : Bool) → (b ≡ false → ⊥) → b ≡ true
yes_or_no true h = refl
yes_or_no false h = absurd (h refl)

never : {b : Bool} → b ≡ true → b ≡ false → ⊥
never {b = b} e f = let no : true ≡ false = sym e ∙ f in cc

-- before one that isn't before y
pub below_all : (z x y : Tagged) → tag_before z x ≡ true → tag_before y x ≡ false → tag_before z y ≡ true
below_all z x y less low = yes_or_no (tag_before z y) (λ e. never less (tags_rank.chain z y x e low))

strictly : (o : Ordering) → is_lt (ordering_reverse o) ≡ false → is_eq o ≡ false → is_lt o ≡ true
strictly Less e f = refl
strictly Equal e f = absurd cc
strictly Greater e f = absurd cc

-- not after and not alike
apart_below : (a b : Tagged) → tag_before b a ≡ false → are_alike a b ≡ false → tag_before a b ≡ true
apart_below a b low other = strictly (block_cmp a.summary b.summary) (ap is_lt (sym (blocks_total.antisymm b.summary a.summary)) ∙ low) other

-- as before as one that it ties with
tied_below : (z a b : Tagged) → ties tag_before z a ≡ true → tag_before a b ≡ true → tag_before z b ≡ true
tied_below z a b tie less =
    let low : tag_before a z ≡ false = (tie_parts (tag_before z a) (tag_before a z) tie).1 in
    yes_or_no (tag_before z b) (λ e. never less (tags_rank.chain a z b low e))
  where
    tie_parts : (p q : Bool) → (not p && not q) ≡ true → (p ≡ false) × (q ≡ false)
    tie_parts true q e = absurd cc
    tie_parts false true e = absurd cc
    tie_parts false false e = (refl, refl)

not_tied : (z y : Tagged) → tag_before z y ≡ true → ties tag_before z y ≡ false
not_tied z y less = ap (λ b. not b && not (tag_before y z)) less

not_tied_back : (z y : Tagged) → tag_before y z ≡ true → ties tag_before z y ≡ false
not_tied_back z y less = by (tag_before z y) (tag_before y z) less
  where
    by : (p q : Bool) → q ≡ true → (not p && not q) ≡ false
    by true q e = refl
    by false true e = refl
    by false false e = absurd cc

-- ---- what is kept

pub keeps : (z x : Tagged) (xs : List Tagged) → ties tag_before z x ≡ true → filter (ties tag_before z) (x ∷ xs) ≡ x ∷ filter (ties tag_before z) xs
keeps z x xs e = ap (λ (b : Bool). cond b (x ∷ filter (ties tag_before z) xs) (filter (ties tag_before z) xs)) e

pub leaves : (z x : Tagged) (xs : List Tagged) → ties tag_before z x ≡ false → filter (ties tag_before z) (x ∷ xs) ≡ filter (ties tag_before z) xs
leaves z x xs e = ap (λ (b : Bool). cond b (x ∷ filter (ties tag_before z) xs) (filter (ties tag_before z) xs)) e

abbrev pub Up : List Tagged → Type 0
Up xs = Rises tag_before tags_rank xs

-- none ties that is before all
far : (z x : Tagged) (xs : List Tagged) → tag_before z x ≡ true → IsFirst tag_before tags_rank x xs → filter (ties tag_before z) xs ≡ []
far z x [] less all = refl
far z x (y ∷ ys) less all = leaves z y ys (not_tied z y (below_all z x y less all.0)) ∙ far z x ys less all.1

far_off : (z x : Tagged) (xs : List Tagged) → tag_before z x ≡ true → Up (x ∷ xs) → filter (ties tag_before z) (x ∷ xs) ≡ []
far_off z x xs less up = far z x (x ∷ xs) less (self tag_before tags_rank x, up.0)

-- ---- none alike with the one before it

apart_or : (b : Bool) (t : Tagged) (o : Option Tagged) → (if b then Some t else o) ≡ None → (b ≡ false) × (o ≡ None)
apart_or true t o e = absurd cc
apart_or false t o e = (refl, e)

short : (xs ys : List Tagged) → xs ≡ ys → length ys ≤ 1 → length xs ≤ 1
short xs ys e le = subst (λ zs. length zs ≤ 1) (sym e) le

one_long : (a : Tagged) (xs : List Tagged) → xs ≡ [] → length (a ∷ xs) ≤ 1
one_long a xs e = short (a ∷ xs) (a ∷ []) (ap (λ ys. a ∷ ys) e) (omega arith)

-- if none is alike with the one before it, at most one ties with one
pub single : (xs : List Tagged) (z : Tagged) → Up xs → first_alike xs ≡ None → length (filter (ties tag_before z) xs) ≤ 1
single [] z up none = omega arith
single (a ∷ []) z up none = by (ties tag_before z a) refl
  where
    by : (b : Bool) → ties tag_before z a ≡ b → length (filter (ties tag_before z) (a ∷ [])) ≤ 1
    by true e = short (filter (ties tag_before z) (a ∷ [])) (a ∷ []) (keeps z a [] e) (omega arith)
    by false e = short (filter (ties tag_before z) (a ∷ [])) [] (leaves z a [] e) (omega arith)
single (a ∷ b ∷ rest) z up none = by (ties tag_before z a) refl (single (b ∷ rest) z up.1 two.1)
  where
    two : (are_alike a b ≡ false) × (first_alike (b ∷ rest) ≡ None)
    two = apart_or (are_alike a b) b (first_alike (b ∷ rest)) none

    by : (c : Bool) → ties tag_before z a ≡ c → length (filter (ties tag_before z) (b ∷ rest)) ≤ 1 → length (filter (ties tag_before z) (a ∷ b ∷ rest)) ≤ 1
    by true e more =
        short (filter (ties tag_before z) (a ∷ b ∷ rest)) (a ∷ filter (ties tag_before z) (b ∷ rest)) (keeps z a (b ∷ rest) e)
        (one_long a (filter (ties tag_before z) (b ∷ rest)) (far_off z b rest (tied_below z a b e (apart_below a b up.0.0 two.0)) up.1))
    by false e more = short (filter (ties tag_before z) (a ∷ b ∷ rest)) (filter (ties tag_before z) (b ∷ rest)) (leaves z a (b ∷ rest) e) more

-- ---- the first that is alike with the one before it

-- it isn't before the first of these
abbrev pub NotBefore : Tagged → List Tagged → Type 0
NotBefore b [] = Unit {0}
NotBefore b (x ∷ xs) = tag_before b x ≡ false

-- it is the second of those that tie with it, and of those before it at most one ties with one
pub record IsPair (xs : List Tagged) (b : Tagged) : Type 0 where
  pub first : Tagged
  pub more : List Tagged
  pub together : filter (ties tag_before b) xs ≡ first ∷ b ∷ more
  pub least : (z : Tagged) → tag_before z b ≡ true → length (filter (ties tag_before z) xs) ≤ 1
  pub low : NotBefore b xs

pub found_pair : (xs : List Tagged) (b : Tagged) → Up xs → first_alike xs ≡ Some b → IsPair xs b
found_pair [] b up found = absurd cc
found_pair (a ∷ []) b up found = absurd cc
found_pair (a ∷ c ∷ rest) b up found = by (are_alike a c) refl (found_pair (c ∷ rest) b up.1)
  where
    here : are_alike a c ≡ true → c ≡ b
    here e = let same : Some c ≡ Some b = sym (ap (λ (t : Bool). if t then Some c else first_alike (c ∷ rest)) e) ∙ found in cc

    later : are_alike a c ≡ false → first_alike (c ∷ rest) ≡ Some b
    later e = sym (ap (λ (t : Bool). if t then Some c else first_alike (c ∷ rest)) e) ∙ found

    at_once : are_alike a c ≡ true → IsPair (a ∷ c ∷ rest) c
    at_once e =
        let tie : ties tag_before a c ≡ true = alike_ties a c ∙ e in
        let back : ties tag_before c a ≡ true = turned (tag_before a c) (tag_before c a) tie in
        let itself : ties tag_before c c ≡ true = tied_to (self tag_before tags_rank c) in record {
          first = a;
          more = filter (ties tag_before c) rest;
          together = keeps c a (c ∷ rest) back ∙ ap (λ (l : List Tagged). a ∷ l) (keeps c c rest itself);
          least = λ z less. short (filter (ties tag_before z) (a ∷ c ∷ rest)) [] (far_off z a (c ∷ rest) (below_all z c a less (front (tag_before a c) (tag_before c a) tie)) up) (omega arith);
          low = up.0.0;
        }
      where
        turned : (p q : Bool) → (not p && not q) ≡ true → (not q && not p) ≡ true
        turned true q e = absurd cc
        turned false true e = absurd cc
        turned false false e = refl

        front : (p q : Bool) → (not p && not q) ≡ true → p ≡ false
        front true q e = absurd cc
        front false q e = refl

        tied_to : tag_before c c ≡ false → ties tag_before c c ≡ true
        tied_to e = ap (λ (t : Bool). not t && not t) e

    behind : are_alike a c ≡ false → IsPair (c ∷ rest) b → IsPair (a ∷ c ∷ rest) b
    behind e h =
        let below : tag_before a c ≡ true = apart_below a c up.0.0 e in
        let less : tag_before a b ≡ true = below_all a c b below h.low in record {
          first = h.first;
          more = h.more;
          together = leaves b a (c ∷ rest) (not_tied_back b a less) ∙ h.together;
          least = λ z before. at z (ties tag_before z a) refl (h.least z before);
          low = tags_rank.one_way a b less;
        }
      where
        at : (z : Tagged) (t : Bool) → ties tag_before z a ≡ t → length (filter (ties tag_before z) (c ∷ rest)) ≤ 1 → length (filter (ties tag_before z) (a ∷ c ∷ rest)) ≤ 1
        at z true d le =
            short (filter (ties tag_before z) (a ∷ c ∷ rest)) (a ∷ filter (ties tag_before z) (c ∷ rest)) (keeps z a (c ∷ rest) d)
            (one_long a (filter (ties tag_before z) (c ∷ rest)) (far_off z c rest (tied_below z a c d (apart_below a c up.0.0 e)) up.1))
        at z false d le = short (filter (ties tag_before z) (a ∷ c ∷ rest)) (filter (ties tag_before z) (c ∷ rest)) (leaves z a (c ∷ rest) d) le

    by : (t : Bool) → are_alike a c ≡ t → (first_alike (c ∷ rest) ≡ Some b → IsPair (c ∷ rest) b) → IsPair (a ∷ c ∷ rest) b
    by true e more = subst (IsPair (a ∷ c ∷ rest)) (here e) (at_once e)
    by false e more = behind e (more (later e))
