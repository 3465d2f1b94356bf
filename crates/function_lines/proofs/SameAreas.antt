-- Areas one after the other.
use Rattle.std.proofs.Common.{◌≡◌, ◌≢◌, ◌<◌, ℕ, suc, Bool, true, false, ◌&&◌, List, [], ◌∷◌, length, drop, get_or, refl, sym, ap, ap₂, ◌∙◌, arith}
use Rattle.std.proofs.Math.Seq.{drop-cons}
use Rattle.coz_types.specs.declared.image.Area.{Area}
use Rattle.function_lines.specs.SameProgram.{is_same_area, are_same_areas}

pub same_next : (file other : List ℕ) (xs bs : List Area) (i : ℕ) (a b : Area) → i < length xs → length xs ≡ length bs → a ≡ get_or xs i a → b ≡ get_or bs i b
    → are_same_areas file other (drop i xs) (drop i bs) ≡ (is_same_area file other a b && are_same_areas file other (drop (suc i) xs) (drop (suc i) bs))
same_next file other xs bs i a b within same is_a is_b =
    let first : drop i xs ≡ a ∷ drop (suc i) xs = drop-cons xs i a within ∙ ap (λ (y : Area). y ∷ drop (suc i) xs) (sym is_a) in
    let second : drop i bs ≡ b ∷ drop (suc i) bs = drop-cons bs i b (omega (arith, same)) ∙ ap (λ (y : Area). y ∷ drop (suc i) bs) (sym is_b) in
    ap₂ (λ (xs ys : List Area). are_same_areas file other xs ys) first second

and_false : (b : Bool) → (b && false) ≡ false
and_false true = refl
and_false false = refl

pub not_as_many : (file other : List ℕ) (xs bs : List Area) → length xs ≢ length bs → are_same_areas file other xs bs ≡ false
not_as_many file other [] [] differ = absurd (differ refl)
not_as_many file other [] (b ∷ bs) differ = refl
not_as_many file other (a ∷ xs) [] differ = refl
not_as_many file other (a ∷ xs) (b ∷ bs) differ =
    ap (λ (t : Bool). is_same_area file other a b && t) (not_as_many file other xs bs (λ e. differ (ap suc e))) ∙ and_false (is_same_area file other a b)
