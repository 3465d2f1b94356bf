-- Two lists, one position after the other.
use Rattle.std.proofs.Common.{◌≡◌, ℕ, suc, ◌+◌, ◌<◌, Bool, true, false, ◌&&◌, List, [], ◌∷◌, length, drop, get_or, refl, sym, ap, ap₂, ◌∙◌, arith, drop-cons}
use Rattle.std.proofs.lemmas.Bool.{and_parts}
use Rattle.std.proofs.lemmas.List.{drop_all}
use Rattle.average_parts.specs.Likeness.{same_list}

-- the element at a position, and those behind it
pub rest_of : {A : Type 0} (xs : List A) (i : ℕ) (x : A) → i < length xs → x ≡ get_or xs i x → drop i xs ≡ x ∷ drop (i + 1) xs
rest_of {A} xs i x lt is = let next : suc i ≡ i + 1 = omega arith in drop-cons xs i x lt ∙ ap₂ (λ (y : A) (n : ℕ). y ∷ drop n xs) (sym is) next

module _ {A : Type 0} (same : A → A → Bool) where
  pub as_many : (xs ys : List A) → same_list same xs ys ≡ true → length xs ≡ length ys
  as_many [] [] e = refl
  as_many [] (y ∷ ys) e = let no : ⊥ = cc in absurd no
  as_many (x ∷ xs) [] e = let no : ⊥ = cc in absurd no
  as_many (x ∷ xs) (y ∷ ys) e = ap suc (as_many xs ys (and_parts (same x y) (same_list same xs ys) e).1)

  pub apart : (xs ys : List A) → (length xs ≡ length ys → ⊥) → false ≡ same_list same xs ys
  apart xs ys never = by (same_list same xs ys) refl
    where
      by : (b : Bool) → same_list same xs ys ≡ b → false ≡ b
      by true e = absurd (never (as_many xs ys e))
      by false e = refl

  module _ (xs ys : List A) (i : ℕ) (x y : A) (in_xs : i < length xs) (in_ys : i < length ys) (at : x ≡ get_or xs i x) (at' : y ≡ get_or ys i y) (so_far : same_list same (drop i xs) (drop i ys) ≡ same_list same xs ys) where
    here : same_list same (drop i xs) (drop i ys) ≡ (same x y && same_list same (drop (i + 1) xs) (drop (i + 1) ys))
    here = ap₂ (same_list same) (rest_of xs i x in_xs at) (rest_of ys i y in_ys at')

    pub one_more : same x y ≡ true → same_list same (drop (i + 1) xs) (drop (i + 1) ys) ≡ same_list same xs ys
    one_more e = sym (here ∙ ap (λ (b : Bool). b && same_list same (drop (i + 1) xs) (drop (i + 1) ys)) e) ∙ so_far

    pub other : same x y ≡ false → false ≡ same_list same xs ys
    other e = sym (here ∙ ap (λ (b : Bool). b && same_list same (drop (i + 1) xs) (drop (i + 1) ys)) e) ∙ so_far

  pub whole : (xs ys : List A) (i : ℕ) → length xs ≡ length ys → length xs ≡ i → same_list same (drop i xs) (drop i ys) ≡ same_list same xs ys → true ≡ same_list same xs ys
  whole xs ys i many all so_far = sym (ap₂ (same_list same) (drop_all i xs (omega (arith, all))) (drop_all i ys (omega (arith, all, many)))) ∙ so_far
