-- With what a written path begins.
use Rattle.std.proofs.Common.{◌≡◌, ◌≢◌, ◌<◌, ◌≤◌, inl, inr, ℕ, ◌+◌, ◌-◌, ◌*◌, ◌/◌, ◌%◌, Bool, true, false, ◌&&◌, ◌||◌, List, [], ◌∷◌, ◌++◌, length, drop, get_or, Some, None, refl, sym, ap, ap₂, subst, ◌∙◌, arith, nat_le, ne_eqb, lt-ltb, le-ltb, leb-true, if◌then◌else◌}
use Rattle.std.specs.Prelude.{◌⊎◌}
use Rattle.coz_types.specs.Labels.{hex_digit, hex_value, is_escaped, is_hex_digit, escape_of, is_scanned, is_written}

-- a digit, and the digit of its value
pub record IsDigit (b : ℕ) : Type 0 where
  pub small : hex_value b < 16
  pub again : hex_digit (hex_value b) ≡ b

-- an escape at the head of a path
pub record IsEscape (high low : ℕ) (rest : List ℕ) : Type 0 where
  pub high_digit : is_hex_digit high ≡ true
  pub low_digit : is_hex_digit low ≡ true
  pub escaped : is_escaped (16 * hex_value high + hex_value low) ≡ true
  pub more : is_written rest ≡ true

second_step : (high : ℕ) (rest : List ℕ) (test : Bool) → is_hex_digit high ≡ test → is_scanned (if test then Some (Some (Some (hex_value high))) else None) rest ≡ true → (low : ℕ) × (more : List ℕ) × (rest ≡ low ∷ more) × IsEscape high low more
second_step high rest false is scanned = absurd cc
second_step high [] true is scanned = absurd cc
second_step high (low ∷ more) true is scanned = third_step (is_hex_digit low) (is_escaped (16 * hex_value high + hex_value low)) refl refl scanned
  where
    third_step : (digit escaped : Bool) → is_hex_digit low ≡ digit → is_escaped (16 * hex_value high + hex_value low) ≡ escaped → is_scanned (if digit && escaped then Some None else None) more ≡ true
        → (l : ℕ) × (m : List ℕ) × (low ∷ more ≡ l ∷ m) × IsEscape high l m
    third_step false escaped d e scanned = absurd cc
    third_step true false d e scanned = absurd cc
    third_step true true d e scanned = (low, more, refl, record { high_digit = is; low_digit = d; escaped = e; more = scanned })

pub escape_found : (rest : List ℕ) → is_written (37 ∷ rest) ≡ true → (high low : ℕ) × (more : List ℕ) × (rest ≡ high ∷ low ∷ more) × IsEscape high low more
escape_found [] scanned = absurd cc
escape_found (high ∷ rest) scanned =
    let (low, more, e, is) = second_step high rest (is_hex_digit high) refl scanned in
    (high, low, more, ap (λ (xs : List ℕ). high ∷ xs) e, is)

pub plain_found : (b : ℕ) (rest : List ℕ) → b ≢ 37 → is_written (b ∷ rest) ≡ true → (is_escaped b ≡ false) × (is_written rest ≡ true)
plain_found b rest other scanned =
    let first : is_scanned (if is_escaped b then None else Some None) rest ≡ true = ap (λ (t : Bool). is_scanned (if t then Some (Some None) else (if is_escaped b then None else Some None)) rest) (sym (ne_eqb b 37 other)) ∙ scanned in
    by_test (is_escaped b) refl first
  where
    by_test : (t : Bool) → is_escaped b ≡ t → is_scanned (if t then None else Some None) rest ≡ true → (is_escaped b ≡ false) × (is_written rest ≡ true)
    by_test true e scanned = absurd cc
    by_test false e scanned = (e, scanned)

-- ---- digits

or_cases : (a b : Bool) → (a || b) ≡ true → (a ≡ true) ⊎ (b ≡ true)
or_cases true b e = inl refl
or_cases false b e = inr e

and_parts : (a b : Bool) → (a && b) ≡ true → (a ≡ true) × (b ≡ true)
and_parts true b e = (refl, e)
and_parts false b e = absurd cc

decimal_digit : (b : ℕ) → 48 ≤ b → b ≤ 57 → IsDigit b
decimal_digit b low high =
    let value : hex_value b ≡ b - 48 = ap (λ (t : Bool). if t then b - 48 else b - 55) (lt-ltb b 65 (omega arith)) in
    let digit : hex_digit (b - 48) ≡ 48 + (b - 48) = ap (λ (t : Bool). if t then 48 + (b - 48) else 55 + (b - 48)) (lt-ltb (b - 48) 10 (omega arith)) in
    record { small = omega (arith, value); again = ap hex_digit value ∙ digit ∙ omega arith }

letter_digit : (b : ℕ) → 65 ≤ b → b ≤ 70 → IsDigit b
letter_digit b low high =
    let value : hex_value b ≡ b - 55 = ap (λ (t : Bool). if t then b - 48 else b - 55) (le-ltb b 65 low) in
    let digit : hex_digit (b - 55) ≡ 55 + (b - 55) = ap (λ (t : Bool). if t then 48 + (b - 55) else 55 + (b - 55)) (le-ltb (b - 55) 10 (omega arith)) in
    record { small = omega (arith, value); again = ap hex_digit value ∙ digit ∙ omega arith }

digit_again : (b : ℕ) → is_hex_digit b ≡ true → IsDigit b
digit_again b is = elim (or_cases (nat_le 48 b && nat_le b 57) (nat_le 65 b && nat_le b 70) is) [
  | inl low ↦ let p = and_parts (nat_le 48 b) (nat_le b 57) low in decimal_digit b (leb-true 48 b p.0) (leb-true b 57 p.1)
  | inr high ↦ let p = and_parts (nat_le 65 b) (nat_le b 70) high in letter_digit b (leb-true 65 b p.0) (leb-true b 70 p.1)
]

escape_again : (high low n : ℕ) (rest : List ℕ) → IsEscape high low rest → n ≡ hex_value high * 16 + hex_value low → escape_of n ≡ 37 ∷ high ∷ low ∷ []
escape_again high low n rest is e =
    let h = digit_again high is.high_digit in
    let l = digit_again low is.low_digit in
    let same : n ≡ 16 * hex_value high + hex_value low = omega (arith, e) in
    let upper : n / 16 ≡ hex_value high = omega (arith, same, l.small) in
    let lower : n % 16 ≡ hex_value low = omega (arith, same, l.small) in
    let escaped : is_escaped n ≡ true = ap is_escaped same ∙ is.escaped in
    ap (λ (t : Bool). if t then 37 ∷ hex_digit (n / 16) ∷ hex_digit (n % 16) ∷ [] else n ∷ []) escaped
    ∙ ap₂ (λ (x y : ℕ). 37 ∷ x ∷ y ∷ []) (ap hex_digit upper ∙ h.again) (ap hex_digit lower ∙ l.again)

pub form_back : (path : List ℕ) (h l : ℕ) → 0 < length path → get_or path 0 0 ≡ 37 → is_written path ≡ true → h ≡ hex_value (get_or path 1 0) → l ≡ hex_value (get_or path 2 0) → escape_of (h * 16 + l) ++ drop 3 path ≡ path
form_back [] h l some first scanned is_h is_l = absurd (omega arith)
form_back (b ∷ rest) h l some first scanned is_h is_l =
    let (high, low, more, e, is) = escape_found rest (subst (λ (x : ℕ). is_written (x ∷ rest) ≡ true) first scanned) in
    let whole : b ∷ rest ≡ 37 ∷ high ∷ low ∷ more = ap₂ (λ (x : ℕ) (xs : List ℕ). x ∷ xs) first e in
    let value : h * 16 + l ≡ hex_value high * 16 + hex_value low =
    ap₂ (λ (x y : ℕ). x * 16 + y) (is_h ∙ ap (λ (xs : List ℕ). hex_value (get_or xs 1 0)) whole) (is_l ∙ ap (λ (xs : List ℕ). hex_value (get_or xs 2 0)) whole) in
    ap₂ (λ (front back : List ℕ). front ++ back) (escape_again high low (h * 16 + l) more is value) (ap (λ (xs : List ℕ). drop 3 xs) whole) ∙ sym whole
