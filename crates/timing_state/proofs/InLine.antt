-- Whether a hart is in a line that is held in two parts.
use Rattle.std.proofs.Common.{◌≡◌, ℕ, ◌||◌, ◌==◌, ◌⊎◌, inl, inr, Bool, true, false, if◌then◌else◌, List, [], ◌∷◌, ◌++◌, refl, sym, ap, ◌∙◌, eq-eqb, ne_eqb}
use Rattle.std.proofs.lemmas.Bool.{cases_eq}
use Rattle.std.specs.List.{list_any}
use Rattle.machines.specs.Places.{is_among}
use Rattle.timing_laws.proofs.Apart.{among-append}

or_else : (a b : Bool) → (a || b) ≡ (if a then true else b)
or_else true b = refl
or_else false b = refl

same_by : (x y : ℕ) → (x ≡ y) ⊎ (x ≡ y → ⊥) → (y == x) ≡ (x == y)
same_by x y (inl same) = rw (eq-eqb x y same, eq-eqb y x (sym same)) refl
same_by x y (inr other) = rw (ne_eqb x y other, ne_eqb y x (λ e. other (sym e))) refl

same_place : (x y : ℕ) → (y == x) ≡ (x == y)
same_place x y = same_by x y (cases_eq x y)

-- as a search finds it
any_is : (k : ℕ) (xs : List ℕ) → list_any (λ y. y == k) xs ≡ is_among k xs
any_is k [] = refl
any_is k (x ∷ xs) = or_else (x == k) (list_any (λ y. y == k) xs) ∙ ap (λ (b : Bool). if b then true else list_any (λ y. y == k) xs) (same_place k x) ∙ ap (λ (b : Bool). if k == x then true else b) (any_is k xs)

-- in one part or the other
pub in_parts : (k : ℕ) (xs ys items : List ℕ) → xs ++ ys ≡ items → (list_any (λ y. y == k) xs || list_any (λ y. y == k) ys) ≡ is_among k items
in_parts k xs ys items is =
    ap (λ (b : Bool). b || list_any (λ y. y == k) ys) (any_is k xs)
    ∙ ap (λ (b : Bool). is_among k xs || b) (any_is k ys)
    ∙ sym (among-append k xs ys)
    ∙ ap (is_among k) is
