-- The steps of a line, one after the other.
use Rattle.std.proofs.Common.{◌≡◌, ℕ, zero, suc, ◌+◌, ◌<◌, ◌≤◌, List, [], ◌∷◌, ◌++◌, length, map, take, get_or, refl, sym, ap, ◌∙◌, arith}
use Rattle.std.specs.List.{enumerate_from}
use Rattle.std.proofs.lemmas.List.{take_more, take_all, map-append}
use Rattle.std.proofs.lemmas.List.FromFn.{length-enumerate_from, get_or-enumerate_from}

get_again : {X : Type 0} (xs : List X) (k : ℕ) (d : X) → get_or xs k (get_or xs k d) ≡ get_or xs k d
get_again [] k d = refl
get_again (x ∷ xs) zero d = refl
get_again (x ∷ xs) (suc k) d = get_again xs k d

pub steps_more : {X Y : Type 0} (f : ℕ × X → Y) (start : ℕ) (xs : List X) (i : ℕ) (d : X) (old new : List Y) (y : Y) → i < length xs → old ≡ map f (take i (enumerate_from start xs)) → y ≡ f (start + i, get_or xs i d) → new ≡ old ++ y ∷ [] → new ≡ map f (take (i + 1) (enumerate_from start xs))
steps_more {X} {Y} f start xs i d old new y lt so_far is more =
    let here : ℕ × X = (start + i, get_or xs i d) in
    let places = enumerate_from start xs in
    let at : get_or places i here ≡ here = get_or-enumerate_from start xs i here lt ∙ ap (λ (x : X). (start + i, x)) (get_again xs i d) in
    more ∙ ap (λ (ys : List Y). ys ++ y ∷ []) so_far ∙ ap (λ (z : Y). map f (take i places) ++ z ∷ []) (is ∙ ap f (sym at))
    ∙ sym (map-append f (take i places) (get_or places i here ∷ []))
    ∙ ap (map f) (sym (take_more places i here (omega (arith, lt, length-enumerate_from start xs))))

pub steps_whole : {X Y : Type 0} (f : ℕ × X → Y) (start : ℕ) (xs : List X) (i : ℕ) (ys : List Y) → length xs ≤ i → ys ≡ map f (take i (enumerate_from start xs)) → ys ≡ map f (enumerate_from start xs)
steps_whole f start xs i ys le so_far = so_far ∙ ap (map f) (take_all i (enumerate_from start xs) (omega (arith, le, length-enumerate_from start xs)))
