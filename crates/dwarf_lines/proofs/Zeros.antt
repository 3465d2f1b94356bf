-- The first zero byte from a place on, by the places of all zero bytes.
use Rattle.std.proofs.Common.{◌≡◌, ℕ, zero, suc, ◌+◌, ◌-◌, ◌<◌, ◌≤◌, inl, inr, Bool, true, false, cond, ◌==◌, nat_lt, List, [], ◌∷◌, length, get_or, take, drop, position, Option, Some, None, option_map, refl, sym, ap, ◌∙◌, arith}
use Rattle.std.proofs.lemmas.Bool.{cases_lt, lt-ltb, le-ltb}
use Rattle.std.proofs.lemmas.List.{length-drop}
use Rattle.std.specs.List.Sorted.{IsNonDecreasingBy, IsPartitionPoint}
use Rattle.leb_cursor.proofs.Exact.{position_step, text_of}
use Rattle.dwarf_lines.specs.Zeros.{zeros_from, first_from, text_from}

stepped : (k : ℕ) (o : Option ℕ) → option_map (λ j. suc k + j) o ≡ option_map (λ j. k + j) (option_map suc o)
stepped k None = refl
stepped k (Some j) = let same : suc k + j ≡ k + suc j = omega arith in ap (λ (x : ℕ). Some x) same

-- no place is left out, so the first of them is the first zero byte
behind_by : (k n b : ℕ) (bs : List ℕ) (is_zero : Bool) → n ≤ k → first_from n (zeros_from (suc k) bs) ≡ option_map (λ j. suc k + j) (position (λ b. b == 0) bs)
    → first_from n (cond is_zero (k ∷ zeros_from (suc k) bs) (zeros_from (suc k) bs)) ≡ option_map (λ j. k + j) (cond is_zero (Some 0) (option_map suc (position (λ b. b == 0) bs)))
behind_by k n b bs true le e = let same : k ≡ k + 0 = omega arith in rw (le-ltb k n le) (ap (λ (x : ℕ). Some x) same)
behind_by k n b bs false le e = e ∙ stepped k (position (λ b. b == 0) bs)

behind : (k n : ℕ) (bs : List ℕ) → n ≤ k → first_from n (zeros_from k bs) ≡ option_map (λ j. k + j) (position (λ b. b == 0) bs)
behind k n [] le = refl
behind k n (b ∷ bs) le = behind_by k n b bs (b == 0) le (behind (suc k) n bs (omega arith)) ∙ ap (λ (o : Option ℕ). option_map (λ j. k + j) o) (sym (position_step (λ b. b == 0) b bs))

skipped : (k n : ℕ) (zs : List ℕ) (is_zero : Bool) → k < n → first_from n (cond is_zero (k ∷ zs) zs) ≡ first_from n zs
skipped k n zs true lt = rw (lt-ltb k n lt) refl
skipped k n zs false lt = refl

drop_nil : (n : ℕ) → drop n [] ≡ (let none : List ℕ = [] in none)
drop_nil zero = refl
drop_nil (suc n) = refl

first_of : (k n : ℕ) (bs : List ℕ) → k ≤ n → first_from n (zeros_from k bs) ≡ option_map (λ j. n + j) (position (λ b. b == 0) (drop (n - k) bs))
first_of k n [] le = ap (λ (x : List ℕ). option_map (λ j. n + j) (position (λ b. b == 0) x)) (sym (drop_nil (n - k)))
first_of k n (b ∷ bs) le =
    elim (cases_lt k n) [
      | inl lt ↦ let more : n - k ≡ suc (n - suc k) = omega arith in
          skipped k n (zeros_from (suc k) bs) (b == 0) lt ∙ first_of (suc k) n bs (omega arith) ∙ ap (λ (m : ℕ). option_map (λ j. n + j) (position (λ b. b == 0) (drop m (b ∷ bs)))) (sym more)
      | inr ge ↦ let none : n - k ≡ 0 = omega arith in let same : k ≡ n = omega (arith, le, ge) in
          behind k n (b ∷ bs) ge ∙ ap (λ (m : ℕ). option_map (λ j. m + j) (position (λ b. b == 0) (b ∷ bs))) same ∙ ap (λ (m : ℕ). option_map (λ j. n + j) (position (λ b. b == 0) (drop m (b ∷ bs)))) (sym none)
    ]

-- the first zero byte at or after a place, by the places of all
pub first_zero : (n : ℕ) (bytes : List ℕ) → first_from n (zeros_from 0 bytes) ≡ option_map (λ j. n + j) (position (λ b. b == 0) (drop n bytes))
first_zero n bytes = let same : n - 0 ≡ n = omega arith in first_of 0 n bytes (omega arith) ∙ ap (λ (m : ℕ). option_map (λ j. n + j) (position (λ b. b == 0) (drop m bytes))) same

-- ---- the search in a rising list

abbrev pub IsPoint : ℕ → List ℕ → ℕ → Type 0
IsPoint n zs k = IsPartitionPoint (λ z. nat_lt z n ≡ true) (λ z. nat_lt z n ≡ false) zs k

none_by : (zs : List ℕ) (n k : ℕ) → length zs ≤ k → IsPoint n zs k → first_from n zs ≡ None
none_by [] n k le h = refl
none_by (z ∷ zs) n zero le h = absurd (omega arith)
none_by (z ∷ zs) n (suc k) le h =
    let t : nat_lt z n ≡ true = h.0 0 0 (omega arith) (omega arith) in
    rw t (none_by zs n k (omega arith) ((λ i d lt less. h.0 (suc i) d (omega arith) (omega arith)), (λ i d ge less. h.1 (suc i) d (omega arith) (omega arith))))

pub none_left : (zs : List ℕ) (n k : ℕ) → length zs ≤ k → IsPoint n zs k → None ≡ first_from n zs
none_left zs n k le h = sym (none_by zs n k le h)

some_by : (zs : List ℕ) (n k d : ℕ) → k < length zs → IsPoint n zs k → first_from n zs ≡ Some (get_or zs k d)
some_by [] n k d lt h = absurd (omega arith)
some_by (z ∷ zs) n zero d lt h = let f : nat_lt z n ≡ false = h.1 0 d (omega arith) (omega arith) in rw f refl
some_by (z ∷ zs) n (suc k) d lt h =
    let t : nat_lt z n ≡ true = h.0 0 d (omega arith) (omega arith) in
    rw t (some_by zs n k d (omega arith) ((λ i e le less. h.0 (suc i) e (omega arith) (omega arith)), (λ i e ge less. h.1 (suc i) e (omega arith) (omega arith))))

pub some_left : (zs : List ℕ) (n k d : ℕ) → k < length zs → IsPoint n zs k → Some (get_or zs k d) ≡ first_from n zs
some_left zs n k d lt h = sym (some_by zs n k d lt h)

-- ---- the list is rising, and in range

low_by : (k : ℕ) (zs : List ℕ) (is_zero : Bool) → ((j d : ℕ) → j < length zs → suc k ≤ get_or zs j d) → (j d : ℕ) → j < length (cond is_zero (k ∷ zs) zs) → k ≤ get_or (cond is_zero (k ∷ zs) zs) j d
low_by k zs true low zero d lt = omega arith
low_by k zs true low (suc j) d lt = omega (arith, low j d (omega arith))
low_by k zs false low j d lt = omega (arith, low j d lt)

low : (k : ℕ) (bs : List ℕ) (j d : ℕ) → j < length (zeros_from k bs) → k ≤ get_or (zeros_from k bs) j d
low k [] j d lt = absurd (omega arith)
low k (b ∷ bs) j d lt = low_by k (zeros_from (suc k) bs) (b == 0) (λ i e less. low (suc k) bs i e less) j d lt

rising_by : (k : ℕ) (zs : List ℕ) (is_zero : Bool) → ((j d : ℕ) → j < length zs → suc k ≤ get_or zs j d) → IsNonDecreasingBy (λ (z : ℕ). z) zs → IsNonDecreasingBy (λ (z : ℕ). z) (cond is_zero (k ∷ zs) zs)
rising_by k zs true above up zero zero d le lt = omega arith
rising_by k zs true above up zero (suc j) d le lt = omega (arith, above j d (omega arith))
rising_by k zs true above up (suc i) zero d le lt = absurd (omega arith)
rising_by k zs true above up (suc i) (suc j) d le lt = up i j d (omega arith) (omega arith)
rising_by k zs false above up i j d le lt = up i j d le lt

pub zeros_rising : (k : ℕ) (bs : List ℕ) → IsNonDecreasingBy (λ (z : ℕ). z) (zeros_from k bs)
zeros_rising k [] i j d le lt = absurd (omega arith)
zeros_rising k (b ∷ bs) i j d le lt = rising_by k (zeros_from (suc k) bs) (b == 0) (λ x e less. low (suc k) bs x e less) (zeros_rising (suc k) bs) i j d le lt

-- ---- the text up to the zero byte that was found

some_is : (x y : ℕ) → Some x ≡ Some y → x ≡ y
some_is x y e = cc

found_by : (n z : ℕ) (bytes : List ℕ) (o : Option ℕ) → position (λ b. b == 0) (drop n bytes) ≡ o → Some z ≡ option_map (λ j. n + j) o → (n ≤ z) × (z < length bytes) × (Some (take (z - n) (drop n bytes)) ≡ option_map (λ k. take k (drop n bytes)) o)
found_by n z bytes None is e = absurd cc
found_by n z bytes (Some k) is e =
    let t = text_of (drop n bytes) k is in
    let sum : z ≡ n + k = some_is z (n + k) e in
    let back : z - n ≡ k = omega arith in
    (omega arith, omega (arith, t.2, length-drop n bytes), ap (λ (m : ℕ). Some (take m (drop n bytes))) back)

pub found : (n z : ℕ) (bytes : List ℕ) → Some z ≡ first_from n (zeros_from 0 bytes) → (n ≤ z) × (z < length bytes) × (Some (take (z - n) (drop n bytes)) ≡ text_from n bytes)
found n z bytes e = found_by n z bytes (position (λ b. b == 0) (drop n bytes)) refl (e ∙ first_zero n bytes)

lost_by : (n : ℕ) (o : Option ℕ) (text : ℕ → List ℕ) → None ≡ option_map (λ j. n + j) o → None ≡ option_map text o
lost_by n None text e = refl
lost_by n (Some k) text e = absurd cc

pub lost : (n : ℕ) (bytes : List ℕ) → None ≡ first_from n (zeros_from 0 bytes) → None ≡ text_from n bytes
lost n bytes e = lost_by n (position (λ b. b == 0) (drop n bytes)) (λ k. take k (drop n bytes)) (e ∙ first_zero n bytes)
