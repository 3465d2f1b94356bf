-- Digits that are written from the lowest on.
use Rattle.std.proofs.Common.{◌≡◌, ℕ, suc, ◌+◌, ◌-◌, ◌/◌, ◌%◌, ◌^◌, ◌<◌, Bool, true, false, ◌==◌, ◌∷◌, length, drop, set, rules, refl, sym, ap, ◌∙◌, arith, drop-cons, drop-set-lt, get_or-set_same, length-set, if◌then◌else◌}
use Rattle.std.specs.Fmt.{digits, digit_glyph, digits_onto}
use Rattle.std.proofs.Math.Nat.{pow-suc}
use Rattle.std.proofs.lemmas.List.{drop_all}
use Rattle.coz_types.specs.Labels.{Text}

pub digits_start : (n : ℕ) (room : Text) → length room ≡ 16 → digits_onto 64 16 false n (drop 16 room) ≡ digits 16 false n
unfolding digits
digits_start n room e = ap (digits_onto 64 16 false n) (drop_all 16 room (omega (arith, e)))

-- one turn, by whether this was the last digit
turn : (k rest : ℕ) (acc : Text) (last : Bool) → (rest / 16 == 0) ≡ last → digits_onto (suc k) 16 false rest acc ≡ (if last then digit_glyph false (rest % 16) ∷ acc else digits_onto k 16 false (rest / 16) (digit_glyph false (rest % 16) ∷ acc))
turn k rest acc last e = ap (λ (b : Bool). if b then digit_glyph false (rest % 16) ∷ acc else digits_onto k 16 false (rest / 16) (digit_glyph false (rest % 16) ∷ acc)) e

is_zero : (n : ℕ) → n ≡ 0 → (n == 0) ≡ true
is_zero n e = ap (λ (m : ℕ). m == 0) e

not_zero : (n : ℕ) → (n ≡ 0 → ⊥) → (n == 0) ≡ false
not_zero n never = by (n == 0) refl
  where
    by : (c : Bool) → (n == 0) ≡ c → c ≡ false
    by true e = let same : n ≡ 0 = search (rules, e) in absurd (never same)
    by false e = refl

-- a byte that is written before what stands there
written_before : (room : Text) (i d : ℕ) → i < 16 → length room ≡ 16 → drop (15 - i) (set room (15 - i) d) ≡ d ∷ drop (16 - i) room
written_before room i d lt e =
    let here : 15 - i < length room = omega (arith, e) in
    let there : 15 - i < length (set room (15 - i) d) = omega (arith, e, length-set room (15 - i) d) in
    let next : suc (15 - i) ≡ 16 - i = omega arith in
    drop-cons (set room (15 - i) d) (15 - i) 0 there
    ∙ ap (λ (x : ℕ). x ∷ drop (suc (15 - i)) (set room (15 - i) d)) (get_or-set_same room (15 - i) d 0 here)
    ∙ ap (λ (t : Text). d ∷ t) (drop-set-lt (suc (15 - i)) room (15 - i) d (omega arith))
    ∙ ap (λ (n : ℕ). d ∷ drop n room) next

pub digits_last : (n i rest d : ℕ) (room : Text) → i < 16 → length room ≡ 16 → rest / 16 ≡ 0 → d ≡ digit_glyph false (rest % 16) → digits_onto (64 - i) 16 false rest (drop (16 - i) room) ≡ digits 16 false n → drop (15 - i) (set room (15 - i) d) ≡ digits 16 false n
digits_last n i rest d room lt e last is so_far =
    let fuel : 64 - i ≡ suc (63 - i) = omega arith in
    let acc : Text = drop (16 - i) room in
    written_before room i d lt e
    ∙ ap (λ (x : ℕ). x ∷ acc) is
    ∙ sym (ap (λ (k : ℕ). digits_onto k 16 false rest acc) fuel ∙ turn (63 - i) rest acc true (is_zero (rest / 16) last))
    ∙ so_far

pub digits_more : (n i rest d : ℕ) (room : Text) → i < 16 → length room ≡ 16 → (rest / 16 ≡ 0 → ⊥) → d ≡ digit_glyph false (rest % 16) → digits_onto (64 - i) 16 false rest (drop (16 - i) room) ≡ digits 16 false n → digits_onto (64 - (i + 1)) 16 false (rest / 16) (drop (16 - (i + 1)) (set room (15 - i) d)) ≡ digits 16 false n
digits_more n i rest d room lt e more is so_far =
    let fuel : 64 - i ≡ suc (63 - i) = omega arith in
    let next : 64 - (i + 1) ≡ 63 - i = omega arith in
    let place : 16 - (i + 1) ≡ 15 - i = omega arith in
    let acc : Text = drop (16 - i) room in
    ap (λ (k : ℕ). digits_onto k 16 false (rest / 16) (drop (16 - (i + 1)) (set room (15 - i) d))) next
    ∙ ap (λ (k : ℕ). digits_onto (63 - i) 16 false (rest / 16) (drop k (set room (15 - i) d))) place
    ∙ ap (λ (t : Text). digits_onto (63 - i) 16 false (rest / 16) t) (written_before room i d lt e ∙ ap (λ (x : ℕ). x ∷ acc) is)
    ∙ sym (ap (λ (k : ℕ). digits_onto k 16 false rest acc) fuel ∙ turn (63 - i) rest acc false (not_zero (rest / 16) more))
    ∙ so_far

pub smaller : (i rest : ℕ) → i < 16 → rest < 16 ^ (16 - i) → rest / 16 < 16 ^ (16 - (i + 1))
smaller i rest lt small =
    let e : 16 - i ≡ suc (16 - (i + 1)) = omega arith in
    let p : 16 ^ (16 - i) ≡ 16 ^ suc (16 - (i + 1)) = ap (λ (k : ℕ). 16 ^ k) e in
    omega (arith, p, pow-suc 16 (16 - (i + 1)), small)
