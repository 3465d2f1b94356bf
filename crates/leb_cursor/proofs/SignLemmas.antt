-- The value of a signed number, computed from its last byte back.
use Rattle.std.proofs.Common.{◌≡◌, ℕ, zero, suc, ◌+◌, ◌-◌, ◌*◌, ◌^◌, ◌%◌, ◌<◌, ◌≤◌, Bool, true, false, not, cond, List, [], ◌∷◌, drop, length, slice_index, arith, refl, sym, ap, ◌∙◌, Option, nat_lt, nat_le, ℤ, pos, negsuc, ◌+ℤ◌, ◌-ℤ◌, ◌*ℤ◌, ◌≤ℤ◌, ◌<ℤ◌, if◌then◌else◌, Some, None, ◌⊎◌, inl, inr, pow-add, subst, drop-cons, position, take, Ok}
use Rattle.std.proofs.lemmas.Bool.{ltb-true, le-ltb, lt-ltb, le-leb, lt-leb, cases_lt}
use Rattle.std.proofs.lemmas.Int.{ints, to_z-of_z}
use Rattle.std.specs.Int.{w64}
use mir.Val.{SFits, to_z, of_z}
use Rattle.leb_cursor.specs.Numbers.{low_bits, signed_low_bits}
use Rattle.leb_cursor.specs.Ahead.{Ahead, fits_64_signed, sleb_at}

-- the low bits above a first value, as the bits of its sign go on
abbrev pub above : ℤ → List ℕ → ℤ
above z [] = z
above z (b ∷ bs) = pos (b % 128) +ℤ pos 128 *ℤ above z bs

above_zero : (bytes : List ℕ) → above (pos 0) bytes ≡ pos (low_bits bytes)
above_zero [] = refl
above_zero (b ∷ bs) = rw (above_zero bs) refl

weight : (n : ℕ) → 2 ^ (7 * suc n) ≡ 128 * 2 ^ (7 * n)
weight n =
    let split : 7 * suc n ≡ 7 + 7 * n = omega arith in
    rw (split, pow-add 2 7 (7 * n)) refl

minus : (b n p q : ℕ) (z : ℤ) → z ≡ pos n -ℤ pos p → q ≡ 128 * p → pos b +ℤ pos 128 *ℤ z ≡ pos (b + 128 * n) -ℤ pos q
minus b n p q z is weighs = omega (arith, ints)

above_minus_one : (bytes : List ℕ) → above (negsuc 0) bytes ≡ pos (low_bits bytes) -ℤ pos (2 ^ (7 * length bytes))
above_minus_one [] = refl
above_minus_one (b ∷ bs) = minus (b % 128) (low_bits bs) (2 ^ (7 * length bs)) (2 ^ (7 * suc (length bs))) (above (negsuc 0) bs) (above_minus_one bs) (weight (length bs))

-- bit 6 of the last byte is set
abbrev pub ends_high : List ℕ → Bool
ends_high bytes = nat_le 64 (slice_index bytes (length bytes - 1) % 128)

high_step : (b c : ℕ) (bs : List ℕ) → ends_high (b ∷ c ∷ bs) ≡ ends_high (c ∷ bs)
high_step b c bs =
    let same : length (b ∷ c ∷ bs) - 1 ≡ suc (length bs) = omega arith in
    let back : length (c ∷ bs) - 1 ≡ length bs = omega arith in
    rw (same, back) refl

tested : (x : ℕ) → nat_lt (2 * x) 128 ≡ not (nat_le 64 x)
tested x =
    elim (cases_lt x 64) [
      | inl low ↦ rw (lt-leb 64 x low, lt-ltb (2 * x) 128 (omega arith)) refl
      | inr high ↦ rw (le-leb 64 x high, le-ltb (2 * x) 128 (omega arith)) refl
    ]

scaled : (b n p q : ℕ) → b < 128 → q ≡ 128 * p → p % 2 ≡ 0 → nat_lt (2 * (b + 128 * n)) q ≡ nat_lt (2 * n) p
scaled b n p q small weighs even =
    elim (cases_lt (2 * n) p) [
      | inl low ↦ rw (lt-ltb (2 * n) p low, lt-ltb (2 * (b + 128 * n)) q (omega arith)) refl
      | inr high ↦ rw (le-ltb (2 * n) p high, le-ltb (2 * (b + 128 * n)) q (omega arith)) refl
    ]

half_of : (b : ℕ) (bs : List ℕ) → nat_lt (2 * low_bits (b ∷ bs)) (2 ^ (7 * length (b ∷ bs))) ≡ not (ends_high (b ∷ bs))
half_of b [] =
    let whole : b % 128 + 128 * 0 ≡ b % 128 = omega arith in
    rw (whole, tested (b % 128)) refl
half_of b (c ∷ bs) =
    let even : 2 ^ (7 * suc (length bs)) % 2 ≡ 0 = omega (arith, weight (length bs)) in
    scaled (b % 128) (low_bits (c ∷ bs)) (2 ^ (7 * suc (length bs))) (2 ^ (7 * suc (suc (length bs)))) (omega arith) (weight (suc (length bs))) even ∙ (half_of c bs ∙ ap (λ (x : Bool). not x) (sym (high_step b c bs)))

-- what goes on above the bits, by the last of them
abbrev pub sign : List ℕ → ℤ
sign bytes = if ends_high bytes then negsuc 0 else pos 0

chosen : (high : Bool) (bytes : List ℕ) → nat_lt (2 * low_bits bytes) (2 ^ (7 * length bytes)) ≡ not high → above (cond high (negsuc 0) (pos 0)) bytes ≡ signed_low_bits bytes
chosen true bytes half = rw half (above_minus_one bytes)
chosen false bytes half = rw half (above_zero bytes)

pub above_sign : (bytes : List ℕ) → above (sign bytes) bytes ≡ signed_low_bits bytes
above_sign [] = refl
above_sign (b ∷ bs) = chosen (ends_high (b ∷ bs)) (b ∷ bs) (half_of b bs)

-- ---- what doesn't fit never fits again

high_above : (i : ℕ) (z : ℤ) (bytes : List ℕ) → suc i ≤ length bytes → pos (2 ^ 56) ≤ℤ above z (drop (suc i) bytes) → pos (2 ^ 63) ≤ℤ above z bytes
high_above i z [] within large = absurd (omega arith)
high_above zero z (b ∷ bs) within large = omega (arith, ints)
high_above (suc i) z (b ∷ bs) within large =
    let more : pos (2 ^ 63) ≤ℤ above z bs = high_above i z bs (omega arith) large in
    omega (arith, ints)

low_above : (i : ℕ) (z : ℤ) (bytes : List ℕ) → suc i ≤ length bytes → above z (drop (suc i) bytes) <ℤ negsuc (2 ^ 56 - 1) → above z bytes <ℤ negsuc (2 ^ 63 - 1)
low_above i z [] within small = absurd (omega arith)
low_above zero z (b ∷ bs) within small = omega (arith, ints)
low_above (suc i) z (b ∷ bs) within small =
    let less : above z bs <ℤ negsuc (2 ^ 63 - 1) = low_above i z bs (omega arith) small in
    omega (arith, ints)

too_high : (z : ℤ) → pos (2 ^ 63) ≤ℤ z → fits_64_signed z ≡ false
too_high (pos n) large = le-ltb n (2 ^ 63) (omega (arith, ints))
too_high (negsuc n) large = absurd (omega (arith, ints))

too_low : (z : ℤ) → z <ℤ negsuc (2 ^ 63 - 1) → fits_64_signed z ≡ false
too_low (pos n) small = absurd (omega (arith, ints))
too_low (negsuc n) small = le-ltb n (2 ^ 63) (omega (arith, ints))

pub too_wide_signed : (i : ℕ) (bytes : List ℕ) (absent present : Option ℤ) → 0 < i → i ≤ length bytes
    → (above (sign bytes) (drop i bytes) <ℤ negsuc (2 ^ 56 - 1)) ⊎ (pos (2 ^ 56) ≤ℤ above (sign bytes) (drop i bytes))
    → absent ≡ (if fits_64_signed (signed_low_bits bytes) then present else absent)
too_wide_signed zero bytes absent present positive within far = absurd (omega arith)
too_wide_signed (suc i) bytes absent present positive within (inl small) =
    let no : fits_64_signed (signed_low_bits bytes) ≡ false = rw (← above_sign bytes) (too_low _ (low_above i (sign bytes) bytes within small)) in
    rw no refl
too_wide_signed (suc i) bytes absent present positive within (inr large) =
    let no : fits_64_signed (signed_low_bits bytes) ≡ false = rw (← above_sign bytes) (too_high _ (high_above i (sign bytes) bytes within large)) in
    rw no refl

fits_is : (z : ℤ) → fits_64_signed z ≡ true → SFits w64 z
fits_is (pos n) fits = let small : n < 2 ^ 63 = ltb-true n (2 ^ 63) fits in omega (arith, ints)
fits_is (negsuc n) fits = let small : n < 2 ^ 63 = ltb-true n (2 ^ 63) fits in omega (arith, ints)

is_fit : (z : ℤ) → SFits w64 z → fits_64_signed z ≡ true
is_fit (pos n) fits = lt-ltb n (2 ^ 63) (omega (arith, ints))
is_fit (negsuc n) fits = lt-ltb n (2 ^ 63) (omega (arith, ints))

chosen_some : (fits : Bool) (z v : ℤ) → Some v ≡ (if fits then Some z else None) → (fits ≡ true) × (z ≡ v)
chosen_some true z v e = (refl, cc)
chosen_some false z v e = absurd cc

-- a value that was there is the number's, and fits
pub found_signed : (z v : ℤ) → Some v ≡ (if fits_64_signed z then Some z else None) → (fits_64_signed z ≡ true) × (z ≡ v) × (to_z w64 (of_z w64 v) ≡ v)
found_signed z v e =
    let both = chosen_some (fits_64_signed z) z v e in
    let fits : SFits w64 v = subst (λ (x : ℤ). SFits w64 x) both.1 (fits_is z both.0) in
    (both.0, both.1, to_z-of_z w64 v fits)

-- a whole number of 64 bits is there
pub whole_signed : (bytes : List ℕ) (v : ℤ) → SFits w64 v → v ≡ above (sign bytes) bytes → Some v ≡ (if fits_64_signed (signed_low_bits bytes) then Some (signed_low_bits bytes) else None)
whole_signed bytes v fits is =
    let same : v ≡ signed_low_bits bytes = is ∙ above_sign bytes in
    let yes : fits_64_signed (signed_low_bits bytes) ≡ true = subst (λ (x : ℤ). fits_64_signed x ≡ true) same (is_fit v fits) in
    rw (yes, ← same) refl

pub above_step : (i j : ℕ) (z : ℤ) (bytes : List ℕ) → j ≡ suc i → i < length bytes → above z (drop i bytes) ≡ pos (slice_index bytes i % 128) +ℤ pos 128 *ℤ above z (drop j bytes)
above_step i j z bytes next within = rw (next, drop-cons bytes i 0) refl

-- a number that was found at the front and fits is what is read
pub sleb_read : (a : Ahead) (k : ℕ) (front rest : List ℕ) (v : ℤ) → Some k ≡ position (λ b. nat_lt b 128) a.bytes → front ≡ take (k + 1) a.bytes → rest ≡ drop (k + 1) a.bytes
    → Some v ≡ (if fits_64_signed (signed_low_bits front) then Some (signed_low_bits front) else None) → sleb_at a ≡ Ok (to_z w64 (of_z w64 v), record { place = a.place + (k + 1); bytes = rest })
sleb_read a k front rest v there is_front is_rest e =
    let found = found_signed (signed_low_bits front) v e in
    let next : k + 1 ≡ suc k = omega arith in
    let fits : fits_64_signed (signed_low_bits (take (suc k) a.bytes)) ≡ true = subst (λ (x : List ℕ). fits_64_signed (signed_low_bits x) ≡ true) (is_front ∙ ap (λ (n : ℕ). take n a.bytes) next) found.0 in
    let value : signed_low_bits (take (suc k) a.bytes) ≡ v = sym (ap (λ (x : List ℕ). signed_low_bits x) (is_front ∙ ap (λ (n : ℕ). take n a.bytes) next)) ∙ found.1 in
    rw (← there, fits, value, found.2, is_rest, next) refl
