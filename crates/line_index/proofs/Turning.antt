-- A line stands at an address if an odd number of its turns is passed.
use Rattle.std.proofs.Common.{⊎_elim, ◌≡◌, ℕ, zero, suc, ◌≤◌, ◌<◌, ◌%◌, ◌==◌, Bool, true, false, not, List, [], ◌∷◌, ◌++◌, length, Option, Some, None, nat_lt, nat_le, leb, cond, get_or, slice_get, refl, sym, ap, ◌∙◌, arith}
use Rattle.std.specs.List.Sorted.{IsNonDecreasingBy, IsPartitionPoint}
use Rattle.std.proofs.lemmas.Bool.{cases_lt}
use Rattle.std.proofs.lemmas.Bool.Decides.{nat_tests}
use Rattle.std.proofs.lemmas.List.{get_or_past}
use Rattle.std.proofs.lemmas.Option.{get_or_from_slice_get}
use Rattle.line_index.specs.declared.changes.Change.{Change}
use Rattle.line_index.specs.Changes.{value_at, IsRising}
use Rattle.line_index.specs.Keys.{is_at}
use Rattle.line_index.specs.Turns.{Rises, is_different, is_within, turns}

-- ---- what the turns tell

is_different_none : (p : Bool) → p ≡ is_different p false
is_different_none true = refl
is_different_none false = refl

not_not : (p : Bool) → not (not p) ≡ p
not_not true = refl
not_not false = refl

not_passed : (t : Bool) (a b : ℕ) (rest : List ℕ) → a < b → is_within a rest ≡ false → is_within a (cond t (b ∷ []) [] ++ rest) ≡ false
not_passed true a b rest lt none = let f : nat_le b a ≡ false = grind (arith, nat_tests) in rw f refl
not_passed false a b rest lt none = none

none_within : (k a low : ℕ) (x : Option ℕ) (cs : List Change) → IsRising low cs → a < low → is_within a (turns k x cs) ≡ false
none_within k a low x [] up lt = refl
none_within k a low x (c ∷ cs) up lt = not_passed (is_different (is_at k x) (is_at k c.position)) a c.address (turns k c.position cs) (omega (arith, up.0)) (none_within k a (suc c.address) c.position cs up.1 (omega (arith, up.0)))

passed : (p q : Bool) (a b : ℕ) (rest : List ℕ) → b ≤ a → is_different q (is_within a rest) ≡ is_different p (is_within a (cond (is_different p q) (b ∷ []) [] ++ rest))
passed true true a b rest le = refl
passed true false a b rest le = let t : nat_le b a ≡ true = grind (arith, nat_tests) in rw t (sym (not_not (is_within a rest)))
passed false true a b rest le = let t : nat_le b a ≡ true = grind (arith, nat_tests) in rw t refl
passed false false a b rest le = refl

has_turned_from : (k a low : ℕ) (x : Option ℕ) (cs : List Change) → IsRising low cs → is_at k (value_at a x cs) ≡ is_different (is_at k x) (is_within a (turns k x cs))
has_turned_from k a low x [] up = is_different_none (is_at k x)
has_turned_from k a low x (c ∷ cs) up =
    ⊎_elim
    (λ lt.
    let t : nat_lt a c.address ≡ true = grind (arith, nat_tests) in
    let none = not_passed (is_different (is_at k x) (is_at k c.position)) a c.address (turns k c.position cs) lt (none_within k a (suc c.address) c.position cs up.1 (omega arith)) in
    ap (λ z. is_at k (cond z x (value_at a c.position cs))) t ∙ is_different_none (is_at k x) ∙ ap (is_different (is_at k x)) (sym none))
    (λ le.
    let f : nat_lt a c.address ≡ false = grind (arith, nat_tests) in
    ap (λ z. is_at k (cond z x (value_at a c.position cs))) f ∙ has_turned_from k a (suc c.address) c.position cs up.1 ∙ passed (is_at k x) (is_at k c.position) a c.address (turns k c.position cs) le)
    (cases_lt a c.address)

-- a line stands at an address if the address lies within its turns
pub has_turned : (k a : ℕ) (cs : List Change) → IsRising 0 cs → is_at k (value_at a None cs) ≡ is_within a (turns k None cs)
has_turned k a cs up = has_turned_from k a 0 None cs up

rises_lower : (low high : ℕ) (xs : List ℕ) → low ≤ high → Rises high xs → Rises low xs
rises_lower low high [] le up = tt
rises_lower low high (x ∷ xs) le up = (omega (arith, up.0), up.1)

pub rises_step : (t : Bool) (low a : ℕ) (xs : List ℕ) → low ≤ a → Rises (suc a) xs → Rises low (cond t (a ∷ []) [] ++ xs)
rises_step true low a xs le up = (le, up)
rises_step false low a xs le up = rises_lower low (suc a) xs (omega arith) up

pub turns_rise : (k low : ℕ) (x : Option ℕ) (cs : List Change) → IsRising low cs → Rises low (turns k x cs)
turns_rise k low x [] up = tt
turns_rise k low x (c ∷ cs) up = rises_step (is_different (is_at k x) (is_at k c.position)) low c.address (turns k c.position cs) up.0 (turns_rise k (suc c.address) c.position cs up.1)

-- ---- how many are passed

low_at : (xs : List ℕ) (low k d : ℕ) → Rises low xs → k < length xs → low ≤ get_or xs k d
low_at [] low k d up lt = absurd (omega arith)
low_at (x ∷ xs) low zero d up lt = up.0
low_at (x ∷ xs) low (suc k) d up lt = omega (arith, up.0, low_at xs (suc x) k d up.1 (omega arith))

pub rises_by_place : (xs : List ℕ) (low : ℕ) → Rises low xs → IsNonDecreasingBy (λ (x : ℕ). x) xs
rises_by_place [] low up i j d le lt = absurd (omega arith)
rises_by_place (x ∷ xs) low up zero zero d le lt = omega arith
rises_by_place (x ∷ xs) low up zero (suc j) d le lt = omega (arith, low_at xs (suc x) j d up.1 (omega arith))
rises_by_place (x ∷ xs) low up (suc i) zero d le lt = absurd (omega arith)
rises_by_place (x ∷ xs) low up (suc i) (suc j) d le lt = rises_by_place xs (suc x) up.1 i j d (omega arith) (omega arith)

abbrev odd : ℕ → Bool
odd zero = false
odd (suc n) = not (odd n)

odd_rest : (n : ℕ) → (n % 2 == 1) ≡ odd n
odd_rest zero = refl
odd_rest (suc zero) = refl
odd_rest (suc (suc n)) =
    let e : suc (suc n) % 2 ≡ n % 2 = omega arith in
    ap (λ r. r == 1) e ∙ odd_rest n ∙ sym (not_not (odd n))

abbrev pub IsTurn : ℕ → List ℕ → ℕ → Type 0
IsTurn a xs n = IsPartitionPoint (λ (x : ℕ). leb x a ≡ true) (λ (x : ℕ). leb x a ≡ false) xs n

odd_passed : (xs : List ℕ) (a n : ℕ) → n ≤ length xs → IsTurn a xs n → odd n ≡ is_within a xs
odd_passed [] a zero le h = refl
odd_passed [] a (suc n) le h = absurd (omega arith)
odd_passed (x ∷ xs) a zero le h =
    let f : leb x a ≡ false = h.1 0 x (omega arith) (omega arith) in
    let g : nat_le x a ≡ false = grind (arith, nat_tests) in
    rw g refl
odd_passed (x ∷ xs) a (suc n) le h =
    let t : leb x a ≡ true = h.0 0 x (omega arith) (omega arith) in
    let s : nat_le x a ≡ true = grind (arith, nat_tests) in
    rw s (ap not (odd_passed xs a n (omega arith) (λ k d less within. h.0 (suc k) d (omega arith) (omega arith), λ k d from within. h.1 (suc k) d (omega arith) (omega arith))))

pub odd_turns : (xs : List ℕ) (a n : ℕ) → n ≤ length xs → IsTurn a xs n → (n % 2 == 1) ≡ is_within a xs
odd_turns xs a n le h = odd_rest n ∙ odd_passed xs a n le h

-- ---- the turns of one line

-- those of a line that is there, and of one that isn't
pub turns_there : (lists : List (List ℕ)) (k : ℕ) (list : List ℕ) (cs : List Change) → slice_get lists k ≡ Some list → ((j : ℕ) → get_or lists j [] ≡ turns j None cs) → list ≡ turns k None cs
turns_there lists k list cs is each = sym (get_or_from_slice_get lists k list [] is) ∙ each k

pub turns_nowhere : (lists : List (List ℕ)) (k : ℕ) (cs : List Change) → length lists ≤ k → ((j : ℕ) → get_or lists j [] ≡ turns j None cs) → [] ≡ turns k None cs
turns_nowhere lists k cs past each = sym (get_or_past lists k [] past) ∙ each k
