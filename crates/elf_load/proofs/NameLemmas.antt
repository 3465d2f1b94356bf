-- A name that ends before its first zero byte, byte by byte.
use Rattle.std.proofs.Common.{◌≡◌, ℕ, suc, ◌+◌, ◌<◌, ◌≤◌, ◌⊎◌, Bool, true, false, not, ◌&&◌, ◌||◌, cond, List, [], ◌∷◌, length, get_or, take, Option, Some, None, option_map, position, refl, sym, ap, subst, ◌∙◌, arith, nat_lt, ◌==◌, inl, inr}
use Rattle.std.specs.Prelude.{bytes_eq}
use Rattle.std.specs.List.{prefix_len, list_any}
use Rattle.std.proofs.lemmas.Bool.{cases_lt, cases_Bool, lt-ltb, le-ltb, eqb-true}
use Rattle.elf_load.specs.Tables.{is_text}

step_by : (b : Bool) (k n : ℕ) → cond (nat_lt (cond (not b) (1 + k) 0) (suc n)) (Some (cond (not b) (1 + k) 0)) None ≡ cond b (Some 0) (option_map suc (cond (nat_lt k n) (Some k) None))
step_by true k n = rw (lt-ltb 0 (suc n) (omega arith)) refl
step_by false k n =
    elim (cases_lt k n) [
      | inl lt ↦ let more : 1 + k < suc n = omega arith in let same : 1 + k ≡ suc k = omega arith in rw (lt-ltb k n lt, lt-ltb (1 + k) (suc n) more, same) refl
      | inr le ↦ let more : suc n ≤ 1 + k = omega arith in rw (le-ltb k n le, le-ltb (1 + k) (suc n) more) refl
    ]

position_step : (p : ℕ → Bool) (x : ℕ) (xs : List ℕ) → position p (x ∷ xs) ≡ cond (p x) (Some 0) (option_map suc (position p xs))
position_step p x xs = step_by (p x) (prefix_len (λ y. not (p y)) xs) (length xs)

-- the name stands there, and a zero byte after it
abbrev pub stands : List ℕ → List ℕ → Bool
stands [] name = false
stands (b ∷ bs) [] = b == 0
stands (b ∷ bs) (x ∷ xs) = not (b == 0) && ((b == x) && stands bs xs)

-- what the definition makes of where the first zero byte is
abbrev at_zero : List ℕ → List ℕ → Option ℕ → Bool
at_zero bytes name o = elim (option_map (λ k. take k bytes) o) [ Some n ↦ bytes_eq n name | None ↦ false ]

and_false : (b : Bool) → (b && false) ≡ false
and_false true = refl
and_false false = refl

later : (b : ℕ) (bs name : List ℕ) (o : Option ℕ) → (b == 0) ≡ false → ((xs : List ℕ) → at_zero bs xs o ≡ stands bs xs) → at_zero (b ∷ bs) name (option_map suc o) ≡ stands (b ∷ bs) name
later b bs [] None large ih = sym large
later b bs [] (Some k) large ih = sym large
later b bs (x ∷ xs) None large ih = rw (large, ← ih xs) (sym (and_false (b == x)))
later b bs (x ∷ xs) (Some k) large ih = rw (large, ← ih xs) refl

at_once : (b : ℕ) (bs name : List ℕ) → (b == 0) ≡ true → at_zero (b ∷ bs) name (Some 0) ≡ stands (b ∷ bs) name
at_once b bs [] is = sym is
at_once b bs (x ∷ xs) is = rw is refl

by_first : (b : ℕ) (bs name : List ℕ) (t : Bool) → (b == 0) ≡ t → ((xs : List ℕ) → at_zero bs xs (position (λ y. y == 0) bs) ≡ stands bs xs) → at_zero (b ∷ bs) name (cond t (Some 0) (option_map suc (position (λ y. y == 0) bs))) ≡ stands (b ∷ bs) name
by_first b bs name true is ih = at_once b bs name is
by_first b bs name false is ih = later b bs name (position (λ y. y == 0) bs) is ih

pub text_stands : (bytes name : List ℕ) → is_text bytes name ≡ stands bytes name
text_stands [] name = refl
text_stands (b ∷ bs) name = ap (λ (o : Option ℕ). at_zero (b ∷ bs) name o) (position_step (λ y. y == 0) b bs) ∙ by_first b bs name (b == 0) refl (text_stands bs)

-- a name with a zero byte stands nowhere
zero_first : (b x : ℕ) (rest : Bool) → (x == 0) ≡ true → (not (b == 0) && ((b == x) && rest)) ≡ false
zero_first b x rest is =
    elim (cases_Bool (b == x)) [
      | inl same ↦
          let e : b ≡ x = eqb-true b x same in
          let zero_is : (b == 0) ≡ true = rw e is in
          rw zero_is refl
      | inr other ↦ rw other (and_false (not (b == 0)))
    ]

pub zero_stands : (bytes name : List ℕ) → list_any (λ y. y == 0) name ≡ true → stands bytes name ≡ false
zero_stands [] name has = refl
zero_stands (b ∷ bs) [] has = absurd cc
zero_stands (b ∷ bs) (x ∷ xs) has =
    elim (cases_Bool (x == 0)) [
      | inl is ↦ zero_first b x (stands bs xs) is
      | inr other ↦
          let more : list_any (λ y. y == 0) xs ≡ true = subst (λ (t : Bool). (t || list_any (λ y. y == 0) xs) ≡ true) other has in
          rw (zero_stands bs xs more, and_false (b == x)) (and_false (not (b == 0)))
    ]

pub short_stands : (bytes name : List ℕ) → length bytes ≤ length name → stands bytes name ≡ false
short_stands [] name le = refl
short_stands (b ∷ bs) [] le = absurd (omega arith)
short_stands (b ∷ bs) (x ∷ xs) le = rw (short_stands bs xs (omega arith), and_false (b == x)) (and_false (not (b == 0)))

-- if neither has a zero byte, equal bytes are enough
not_zero : (b x : ℕ) (rest : Bool) → (x == 0) ≡ false → (not (b == 0) && ((b == x) && rest)) ≡ ((b == x) && rest)
not_zero b x rest none =
    elim (cases_Bool (b == x)) [
      | inl same ↦
          let e : b ≡ x = eqb-true b x same in
          let other : (b == 0) ≡ false = rw e none in
          rw other refl
      | inr other ↦ rw other (and_false (not (b == 0)))
    ]

and_assoc : (a b c : Bool) → (a && (b && c)) ≡ ((a && b) && c)
and_assoc true b c = refl
and_assoc false b c = refl

or_false : (a b : Bool) → (a || b) ≡ false → (a ≡ false) × (b ≡ false)
or_false true b e = absurd cc
or_false false b e = (refl, e)

pub equal_stands : (bytes name : List ℕ) → length name < length bytes → list_any (λ y. y == 0) name ≡ false → stands bytes name ≡ (bytes_eq (take (length name) bytes) name && (get_or bytes (length name) 0 == 0))
equal_stands [] name lt none = absurd (omega arith)
equal_stands (b ∷ bs) [] lt none = refl
equal_stands (b ∷ bs) (x ∷ xs) lt none =
    let both = or_false (x == 0) (list_any (λ y. y == 0) xs) none in
    not_zero b x (stands bs xs) both.0 ∙ (ap (λ (t : Bool). (b == x) && t) (equal_stands bs xs (omega arith) both.1) ∙ and_assoc (b == x) (bytes_eq (take (length xs) bs) xs) (get_or bs (length xs) 0 == 0))

pub no_text : (bytes name : List ℕ) → (list_any (λ y. y == 0) name ≡ true) ⊎ (length bytes ≤ length name) → false ≡ is_text bytes name
no_text bytes name (inl has) = sym (text_stands bytes name ∙ zero_stands bytes name has)
no_text bytes name (inr le) = sym (text_stands bytes name ∙ short_stands bytes name le)

-- what is tested of longer bytes: the front, and the byte after it
pub front_text : (bytes name front : List ℕ) (same ends : Bool) → length name < length bytes → list_any (λ y. y == 0) name ≡ false → front ≡ take (length name) bytes → same ≡ bytes_eq front name → ends ≡ (get_or bytes (length name) 0 == 0) → (same && ends) ≡ is_text bytes name
front_text bytes name front same ends lt none is_front is_same is_ends =
    rw (is_same, is_ends, is_front) (sym (text_stands bytes name ∙ equal_stands bytes name lt none))
