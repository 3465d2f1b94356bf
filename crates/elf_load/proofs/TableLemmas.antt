-- Tables that are read entry by entry.
use Rattle.std.proofs.Common.{◌≡◌, ℕ, zero, suc, ◌+◌, ◌-◌, ◌*◌, ◌<◌, List, [], ◌∷◌, ◌++◌, map, sym, ap, ◌∙◌, arith}
use Rattle.std.proofs.lemmas.List.{map-append}
use Rattle.elf_load.specs.Tables.{places}

same_place : (from size k : ℕ) → (from + size) + size * k ≡ from + size * suc k
same_place from size k = grind arith

-- one more entry
pub places_more : (from size k : ℕ) → places from size (suc k) ≡ places from size k ++ (from + size * k) ∷ []
places_more from size zero = ap (λ (n : ℕ). n ∷ []) (omega arith)
places_more from size (suc k) = ap (λ (ns : List ℕ). from ∷ ns) (places_more (from + size) size k ∙ ap (λ (n : ℕ). places (from + size) size k ++ n ∷ []) (same_place from size k))

pub entries_more : {X : Type 0} (read : ℕ → X) (from size k : ℕ) (xs ys : List X) (x : X) → xs ≡ map read (places from size k) → x ≡ read (from + size * k) → ys ≡ xs ++ x ∷ [] → ys ≡ map read (places from size (k + 1))
entries_more {X} read from size k xs ys x so_far is more =
    let next : k + 1 ≡ suc k = omega arith in
    let joined : xs ++ x ∷ [] ≡ map read (places from size k ++ (from + size * k) ∷ []) = rw (so_far, is) (sym (map-append read (places from size k) ((from + size * k) ∷ []))) in
    more ∙ (joined ∙ ap (λ (ps : List ℕ). map read ps) (sym (places_more from size k) ∙ ap (λ (n : ℕ). places from size n) (sym next)))

-- the next of the entries that are left
pub entries_next : {X : Type 0} (read : ℕ → X) (from size k n : ℕ) → k < n → map read (places (from + size * k) size (n - k)) ≡ read (from + size * k) ∷ map read (places (from + size * (k + 1)) size (n - (k + 1)))
entries_next read from size k n below =
    let left : n - k ≡ suc (n - (k + 1)) = omega arith in
    let next : from + size * k + size ≡ from + size * (k + 1) = grind arith in
    ap (λ (m : ℕ). map read (places (from + size * k) size m)) left ∙ ap (λ (place : ℕ). read (from + size * k) ∷ map read (places place size (n - (k + 1)))) next
