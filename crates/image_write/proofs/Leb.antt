-- A written LEB128 number is a spelling of its number.
use Rattle.std.proofs.Common.{◌≡◌, ◌≤◌, ◌<◌, ℕ, zero, suc, ◌+◌, ◌-◌, ◌*◌, ◌%◌, ◌^◌, ◌⊎◌, inl, inr, Bool, true, false, List, [], ◌∷◌, ◌||◌, refl, ap, ap₂, subst, ◌∙◌, sym, arith, find, nat_lt}
use Rattle.std.specs.Prelude.{unwrap_or, ℤ, pos, negsuc, ◌-ℤ◌}
use Rattle.std.proofs.Math.Nat.{mod-eq_of_lt}
use Rattle.std.proofs.lemmas.Int.{ints}
use Rattle.rv_decode.specs.Fields.{twos_complement, is_signed}
use Rattle.image_write.proofs.Lengths.{length-groups}
use Rattle.std.specs.List.{list_any, AllByRecursion}
use Rattle.std.proofs.lemmas.Bool.{ltb-true, lt-ltb, le-ltb, cases_Bool}
use Rattle.std.proofs.lemmas.Nat.{pow-add}
use Rattle.leb_cursor.specs.Numbers.{SpellsUnsigned, signed_number, SpellsSigned}
use Rattle.line_write.proofs.Leb.{groups_one, groups_value}
use Rattle.byte_write.specs.Numbers.{groups, fewest, uleb, sleb}

-- the count that is found passes the test, if one does
found_passes : (test : ℕ → Bool) (xs : List ℕ) → list_any test xs ≡ true → test (unwrap_or (find test xs) 10) ≡ true
found_passes test [] e = absurd cc
found_passes test (x ∷ xs) e =
    elim (cases_Bool (test x)) [
      | inl is ↦ rw is is
      | inr other ↦
          let later : list_any test xs ≡ true = subst (λ (b : Bool). (b || list_any test xs) ≡ true) other e in
          rw other (found_passes test xs later)
    ]

found_some : (test : ℕ → Bool) (xs : List ℕ) → AllByRecursion (λ k. 1 ≤ k) xs → 1 ≤ unwrap_or (find test xs) 10
found_some test [] all = omega arith
found_some test (x ∷ xs) all =
    elim (cases_Bool (test x)) [
      | inl is ↦ rw is all.0
      | inr other ↦ rw other (found_some test xs all.1)
    ]

fewest_some : (test : ℕ → Bool) → 1 ≤ fewest test
unfolding fewest
fewest_some test = found_some test (1 ∷ 2 ∷ 3 ∷ 4 ∷ 5 ∷ 6 ∷ 7 ∷ 8 ∷ 9 ∷ 10 ∷ []) (omega arith, (omega arith, (omega arith, (omega arith, (omega arith, (omega arith, (omega arith, (omega arith, (omega arith, (omega arith, tt))))))))))

third : (a b rest : Bool) → (a || (b || (true || rest))) ≡ true
third true b rest = refl
third false true rest = refl
third false false rest = refl

fifth : (a b c d rest : Bool) → (a || (b || (c || (d || (true || rest))))) ≡ true
fifth true b c d rest = refl
fifth false true c d rest = refl
fifth false false c d rest = third c d rest

fewest_by : (test : ℕ → Bool) (k : ℕ) → fewest test ≡ k → (test 3 ≡ true) ⊎ (test 5 ≡ true) → test k ≡ true
unfolding fewest
fewest_by test k e (inl is) =
    let some : list_any test (1 ∷ 2 ∷ 3 ∷ 4 ∷ 5 ∷ 6 ∷ 7 ∷ 8 ∷ 9 ∷ 10 ∷ []) ≡ true = rw is (third (test 1) (test 2) (list_any test (4 ∷ 5 ∷ 6 ∷ 7 ∷ 8 ∷ 9 ∷ 10 ∷ []))) in
    subst (λ (j : ℕ). test j ≡ true) e (found_passes test (1 ∷ 2 ∷ 3 ∷ 4 ∷ 5 ∷ 6 ∷ 7 ∷ 8 ∷ 9 ∷ 10 ∷ []) some)
fewest_by test k e (inr is) =
    let some : list_any test (1 ∷ 2 ∷ 3 ∷ 4 ∷ 5 ∷ 6 ∷ 7 ∷ 8 ∷ 9 ∷ 10 ∷ []) ≡ true = rw is (fifth (test 1) (test 2) (test 3) (test 4) (list_any test (6 ∷ 7 ∷ 8 ∷ 9 ∷ 10 ∷ []))) in
    subst (λ (j : ℕ). test j ≡ true) e (found_passes test (1 ∷ 2 ∷ 3 ∷ 4 ∷ 5 ∷ 6 ∷ 7 ∷ 8 ∷ 9 ∷ 10 ∷ []) some)

of_count : (k n : ℕ) → 1 ≤ k → n < 2 ^ (7 * k) → SpellsUnsigned n (groups k n)
of_count zero n some below = absurd (omega arith)
of_count (suc k) n some below = (groups_one k n, groups_value k n below)

pub uleb_spells : (n : ℕ) → n < 2 ^ 21 → SpellsUnsigned n (uleb n)
uleb_spells n below =
    let test : ℕ → Bool = λ k. nat_lt n (2 ^ (7 * k)) in
    of_count (fewest test) n (fewest_some test) (ltb-true _ _ (fewest_by test (fewest test) refl (inl (lt-ltb n (2 ^ 21) below))))

-- ---- with a sign

half_more : (k : ℕ) → 1 ≤ k → 2 ^ (7 * k) ≡ 2 * 2 ^ (7 * k - 1)
half_more k some =
    let one : 7 * k ≡ 1 + (7 * k - 1) = omega arith in
    ap (λ (i : ℕ). 2 ^ i) one ∙ pow-add 2 1 (7 * k - 1)

below_zero : (n m : ℕ) → n < m → pos (m - suc n) -ℤ pos m ≡ negsuc n
below_zero n m less = omega (arith, ints)

signed_back : (k : ℕ) (z : ℤ) → 1 ≤ k → is_signed (7 * k) z ≡ true → (twos_complement (7 * k) z < 2 ^ (7 * k)) × (signed_number (7 * k) (twos_complement (7 * k) z) ≡ z)
signed_back k (pos n) some fits =
    let low : n < 2 ^ (7 * k - 1) = ltb-true n (2 ^ (7 * k - 1)) fits in
    let half = half_more k some in
    let whole : n < 2 ^ (7 * k) = omega arith in
    let same : n % 2 ^ (7 * k) ≡ n = mod-eq_of_lt whole in
    let twice : 2 * n < 2 ^ (7 * k) = omega arith in
    (subst (λ (m : ℕ). m < 2 ^ (7 * k)) (sym same) whole, rw (same, lt-ltb (2 * n) (2 ^ (7 * k)) twice) refl)
signed_back k (negsuc n) some fits =
    let low : n < 2 ^ (7 * k - 1) = ltb-true n (2 ^ (7 * k - 1)) fits in
    let half = half_more k some in
    let whole : n < 2 ^ (7 * k) = omega arith in
    let same : n % 2 ^ (7 * k) ≡ n = mod-eq_of_lt whole in
    let twice : 2 ^ (7 * k) ≤ 2 * (2 ^ (7 * k) - suc n) = omega arith in
    let back : pos (2 ^ (7 * k) - suc n) -ℤ pos (2 ^ (7 * k)) ≡ negsuc n = below_zero n (2 ^ (7 * k)) whole in
    (subst (λ (m : ℕ). 2 ^ (7 * k) - suc m < 2 ^ (7 * k)) (sym same) (omega arith), rw (same, le-ltb (2 * (2 ^ (7 * k) - suc n)) (2 ^ (7 * k)) twice) back)

of_signed_count : (k : ℕ) (z : ℤ) → 1 ≤ k → is_signed (7 * k) z ≡ true → SpellsSigned z (groups k (twos_complement (7 * k) z))
of_signed_count k z some fits =
    let back = signed_back k z some fits in
    let spelled = of_count k (twos_complement (7 * k) z) some back.0 in
    (spelled.0, ap₂ (λ (size n : ℕ). signed_number (7 * size) n) (length-groups k (twos_complement (7 * k) z)) spelled.1 ∙ back.1)

pub sleb_spells : (z : ℤ) → is_signed 35 z ≡ true → SpellsSigned z (sleb z)
sleb_spells z fits =
    let test : ℕ → Bool = λ k. is_signed (7 * k) z in
    of_signed_count (fewest test) z (fewest_some test) (fewest_by test (fewest test) refl (inr fits))
