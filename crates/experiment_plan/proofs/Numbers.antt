-- Numbers of at most 20 digits are small, and each byte of one is a digit.
use Rattle.std.proofs.Common.{◌≡◌, ℕ, zero, suc, ◌+◌, ◌-◌, ◌*◌, ◌^◌, ◌<◌, ◌≤◌, true, ◌&&◌, [], ◌∷◌, length, get_or, take, refl, sym, ap, ◌∙◌, arith, nat_lt, nat_le}
use Rattle.std.specs.List.{list_all}
use Rattle.std.specs.Char.{digit_value}
use Rattle.std.specs.Str.Parse.{digits_value, AllDigits}
use Rattle.std.proofs.Math.Nat.{pow-le-pow_right}
use Rattle.std.proofs.lemmas.Bool.Decides.{nat_tests}
use Rattle.std.proofs.lemmas.List.{length-take}
use Rattle.std.proofs.lemmas.Int.Digits.{digits_value-lt, digits_value_more}
use Rattle.std.proofs.lemmas.Str.{digit_value_digit}
use Rattle.experiment_plan.specs.Lists.{Text}
use Rattle.experiment_plan.specs.Lists.{is_digit, is_number}
use Rattle.experiment_plan.proofs.Bools.{both_true}

in_range : (c : ℕ) → is_digit c ≡ true → (48 ≤ c) × (c ≤ 57)
in_range c e = let both = both_true (nat_le 48 c) (nat_le c 57) e in (grind (arith, nat_tests), grind (arith, nat_tests))

pub value_is : (c : ℕ) → is_digit c ≡ true → digit_value c ≡ c - 48
value_is c e = let r = in_range c e in let v = digit_value_digit c r in omega arith

digits_are : (text : Text) → list_all is_digit text ≡ true → AllDigits 10 text
digits_are [] e = tt
digits_are (c ∷ text) e =
    let both = both_true (is_digit c) (list_all is_digit text) e in
    let r = in_range c both.0 in
    let v = value_is c both.0 in
    (omega arith, digits_are text both.1)

pub digit_there : (text : Text) (i : ℕ) → list_all is_digit text ≡ true → i < length text → is_digit (get_or text i 0) ≡ true
digit_there [] i e lt = absurd (omega arith)
digit_there (c ∷ text) zero e lt = (both_true (is_digit c) (list_all is_digit text) e).0
digit_there (c ∷ text) (suc i) e lt = digit_there text i (both_true (is_digit c) (list_all is_digit text) e).1 (omega arith)

all_taken : (n : ℕ) (text : Text) → list_all is_digit text ≡ true → list_all is_digit (take n text) ≡ true
all_taken zero text e = refl
all_taken (suc n) [] e = refl
all_taken (suc n) (c ∷ text) e =
    let both = both_true (is_digit c) (list_all is_digit text) e in
    rw (both.0, all_taken n text both.1) refl

pub parts : (text : Text) → is_number text ≡ true → (length text ≤ 20) × (list_all is_digit text ≡ true)
parts text e =
    let a = both_true (nat_lt 0 (length text) && nat_le (length text) 20) (list_all is_digit text) e in
    let b = both_true (nat_lt 0 (length text)) (nat_le (length text) 20) a.0 in
    (grind (arith, nat_tests), a.1)

pub small : (text : Text) (i : ℕ) → is_number text ≡ true → i ≤ length text → digits_value 10 (take i text) < 10 ^ 20
small text i e le =
    let p = parts text e in
    let lt = digits_value-lt 10 (take i text) (digits_are (take i text) (all_taken i text p.1)) in
    let len : length (take i text) ≤ 20 = omega (arith, length-take i text) in
    let pow : 10 ^ length (take i text) ≤ 10 ^ 20 = pow-le-pow_right (omega arith) len in
    omega arith

-- one digit more
pub step : (text : Text) (i value : ℕ) → is_number text ≡ true → i < length text → value ≡ digits_value 10 (take i text) → value * 10 + (get_or text i 0 - 48) ≡ digits_value 10 (take (i + 1) text)
step text i value e lt is =
    ap (λ (v : ℕ). v * 10 + (get_or text i 0 - 48)) is
    ∙ ap (λ (d : ℕ). digits_value 10 (take i text) * 10 + d) (sym (value_is (get_or text i 0) (digit_there text i (parts text e).1 lt)))
    ∙ sym (digits_value_more 10 text i lt)

pub fits : (text : Text) (i value : ℕ) → is_number text ≡ true → i < length text → value ≡ digits_value 10 (take i text) → value * 10 + (get_or text i 0 - 48) < 2 ^ 128
fits text i value e lt is =
    let s = step text i value e lt is in
    let b = small text (i + 1) e (omega arith) in
    let big : 10 ^ 20 < 2 ^ 128 = omega arith in
    omega arith
