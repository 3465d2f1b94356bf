-- The first mark of an address, by places.
use Rattle.std.proofs.Common.{◌≡◌, ℕ, suc, ◌<◌, ◌≤◌, ◌-◌, false, ◌==◌, List, [], ◌∷◌, length, get_or, Some, None, cond, slice_get, refl, sym, ap, ◌∙◌, subst, eq-eqb, ⊎_elim, arith}
use Rattle.std.specs.List.{find}
use Rattle.std.specs.List.Sorted.{IsNonDecreasingBy, IsPartitionPoint}
use Rattle.std.proofs.lemmas.Bool.{cases_lt}
use Rattle.std.proofs.lemmas.Bool.Decides.{nat_tests}
use Rattle.std.proofs.lemmas.Option.{get_or_from_slice_get, slice_get-get_or}
use Rattle.std.proofs.lemmas.List.{get_or_default}
use Rattle.std.proofs.lemmas.List.Folds.{find_at}
use Rattle.std.proofs.lemmas.List.Sums.{position_or_len_is}
use Rattle.progress_points.specs.Points.{Mark, is_at}

abbrev pub AreInOrder : List Mark → Type 0
AreInOrder marks = IsNonDecreasingBy (λ (mark : Mark). mark.address) marks

other_below : (x a : ℕ) → x < a → (x == a) ≡ false
other_below x a lt = grind (arith, nat_tests)

other_above : (x a : ℕ) → a < x → (x == a) ≡ false
other_above x a lt = grind (arith, nat_tests)

-- if no mark has the address
absent : (a : ℕ) (marks : List Mark) → ((k : ℕ) (d : Mark) → k < length marks → is_at a (get_or marks k d) ≡ false) → find (is_at a) marks ≡ None
absent a [] other = refl
absent a (m ∷ ms) other = ap (λ b. cond b (Some m) (find (is_at a) ms)) (other 0 m (omega arith)) ∙ absent a ms (λ k d lt. other (suc k) d (omega arith))

-- an address below that of the first mark has none
pub below_first : (a : ℕ) (marks : List Mark) (first : Mark) → AreInOrder marks → slice_get marks 0 ≡ Some first → a < first.address → find (is_at a) marks ≡ None
below_first a marks first up is lt =
    absent a marks
    (λ k d within.
    let front : get_or marks 0 d ≡ first = get_or_from_slice_get marks 0 first d is in
    let same : (get_or marks 0 d).address ≡ first.address = ap (λ (m : Mark). m.address) front in
    let le : (get_or marks 0 d).address ≤ (get_or marks k d).address = up 0 k d (omega arith) within in
    other_above (get_or marks k d).address a (omega (arith, same, le, lt)))

-- nor has one above that of the last
pub above_last : (a : ℕ) (marks : List Mark) (last : Mark) → AreInOrder marks → slice_get marks (length marks - 1) ≡ Some last → last.address < a → find (is_at a) marks ≡ None
above_last a marks last up is lt =
    absent a marks
    (λ k d within.
    let back : get_or marks (length marks - 1) d ≡ last = get_or_from_slice_get marks (length marks - 1) last d is in
    let same : (get_or marks (length marks - 1) d).address ≡ last.address = ap (λ (m : Mark). m.address) back in
    let le : (get_or marks k d).address ≤ (get_or marks (length marks - 1) d).address = up k (length marks - 1) d (omega arith) (omega arith) in
    other_below (get_or marks k d).address a (omega (arith, same, le, lt)))

-- those below n stand below the address, and no other does
abbrev pub IsPlace : ℕ → List Mark → ℕ → Type 0
IsPlace a marks n = IsPartitionPoint (λ (m : Mark). m.address < a) (λ (m : Mark). a ≤ m.address) marks n

before : (a : ℕ) (marks : List Mark) (n : ℕ) → IsPlace a marks n → (k : ℕ) (d : Mark) → k < n → is_at a (get_or marks k d) ≡ false
before a marks n place k d lt = other_below (get_or marks k d).address a (place.0 k d (omega arith) lt)

-- if all stand below it, none has it
pub all_below : (a : ℕ) (marks : List Mark) (n : ℕ) → IsPlace a marks n → length marks ≤ n → find (is_at a) marks ≡ None
all_below a marks n place past = absent a marks (λ k d within. before a marks n place k d (omega arith))

-- the first that is not below it has it, or none has
pub found_there : (a : ℕ) (marks : List Mark) (n : ℕ) (m : Mark) → IsPlace a marks n → n < length marks → m ≡ get_or marks n m → m.address ≡ a → find (is_at a) marks ≡ Some m
found_there a marks n m place within is has =
    find_at (is_at a) marks
    ∙ ap (slice_get marks) (position_or_len_is (is_at a) marks n m (omega arith) (λ k lt. before a marks n place k m lt) (λ lt. ap (is_at a) (sym is) ∙ eq-eqb m.address a has))
    ∙ slice_get-get_or marks n m within ∙ ap (λ o. Some o) (sym is)

pub not_there : (a : ℕ) (marks : List Mark) (n : ℕ) (m : Mark) → AreInOrder marks → IsPlace a marks n → n < length marks → m ≡ get_or marks n m → (m.address ≡ a → ⊥) → find (is_at a) marks ≡ None
not_there a marks n m up place within is other =
    let low : a ≤ m.address = subst (λ (o : Mark). a ≤ o.address) (sym is) (place.1 n m (omega arith) within) in
    absent a marks
    (λ k d less.
    ⊎_elim (λ lt. before a marks n place k d lt)
    (λ ge.
    let same : (get_or marks n d).address ≡ m.address = ap (λ (o : Mark). o.address) (get_or_default marks n d m within ∙ sym is) in
    let le : (get_or marks n d).address ≤ (get_or marks k d).address = up n k d ge less in
    other_above (get_or marks k d).address a (omega (arith, same, le, low, other)))
    (cases_lt k n))
