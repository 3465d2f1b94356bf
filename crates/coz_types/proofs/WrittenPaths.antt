-- The written form of any path is in its one form.
use Rattle.std.proofs.Common.{rules, ◌≡◌, ℕ, zero, suc, ◌+◌, ◌*◌, ◌/◌, ◌%◌, ◌<◌, Bool, true, false, ◌&&◌, ◌==◌, [], ◌∷◌, ◌++◌, Option, Some, None, refl, sym, ap, ◌∙◌, arith, if◌then◌else◌}
use Rattle.std.specs.List.{AllByRecursion}
use Rattle.coz_types.specs.Labels.{Text, Scan, is_scanned, is_escaped, escape_of, written, hex_digit, hex_value, is_hex_digit, is_written}

pub both : (x y : Bool) → (x && y) ≡ true → (x ≡ true) × (y ≡ true)
both true y e = (refl, e)
both false y e = absurd cc

-- a test that passes for each number below this
abbrev all_below : ℕ → (ℕ → Bool) → Bool
all_below zero p = true
all_below (suc n) p = p n && all_below n p

below : (n : ℕ) (p : ℕ → Bool) → all_below n p ≡ true → (b : ℕ) → b < n → p b ≡ true
below zero p all b lt = absurd (omega arith)
below (suc n) p all b lt = by (b == n) refl (both (p n) (all_below n p) all).0 (below n p (both (p n) (all_below n p) all).1 b)
  where
    by : (c : Bool) → (b == n) ≡ c → p n ≡ true → (b < n → p b ≡ true) → p b ≡ true
    by true e here low = let same : b ≡ n = search (rules, e) in ap p same ∙ here
    by false e here low = low (grind (arith, e, lt))

abbrev stands_for : ℕ → Bool
stands_for x = is_hex_digit (hex_digit x) && hex_value (hex_digit x) == x

digit_table : all_below 16 stands_for ≡ true
digit_table = refl

record IsDigit (x : ℕ) : Type 0 where
  is : is_hex_digit (hex_digit x) ≡ true
  value : hex_value (hex_digit x) ≡ x

digit_is : (x : ℕ) → x < 16 → IsDigit x
digit_is x lt = let h = both (is_hex_digit (hex_digit x)) (hex_value (hex_digit x) == x) (below 16 stands_for digit_table x lt) in record { is = h.0; value = search (rules, h.1) }

not_mark : (b : ℕ) → is_escaped b ≡ false → (b == 37) ≡ false
not_mark b e = by (b == 37) refl
  where
    by : (c : Bool) → (b == 37) ≡ c → c ≡ false
    by true d = let same : b ≡ 37 = search (rules, d) in let never : true ≡ false = sym (ap is_escaped same) ∙ e in absurd cc
    by false d = refl

-- a scan is between two bytes again after each byte that is written
pub byte_scans : (b : ℕ) (rest : Text) → b < 256 → is_scanned (Some None) (escape_of b ++ rest) ≡ is_scanned (Some None) rest
byte_scans b rest lt = by (is_escaped b) refl
  where
    high : IsDigit (b / 16)
    high = digit_is (b / 16) (omega arith)

    low : IsDigit (b % 16)
    low = digit_is (b % 16) (omega arith)

    whole : 16 * hex_value (hex_digit (b / 16)) + hex_value (hex_digit (b % 16)) ≡ b
    whole = ap (λ (n : ℕ). 16 * n + hex_value (hex_digit (b % 16))) high.value ∙ ap (λ (n : ℕ). 16 * (b / 16) + n) low.value ∙ omega arith

    by : (c : Bool) → is_escaped b ≡ c → is_scanned (Some None) ((if c then 37 ∷ hex_digit (b / 16) ∷ hex_digit (b % 16) ∷ [] else b ∷ []) ++ rest) ≡ is_scanned (Some None) rest
    by true e =
        ap (λ (c : Bool). let next : Option Scan = if c then Some (Some (Some (hex_value (hex_digit (b / 16))))) else None in is_scanned next (hex_digit (b % 16) ∷ rest)) high.is
        ∙ ap (λ (c : Bool). let next : Option Scan = if c && is_escaped (16 * hex_value (hex_digit (b / 16)) + hex_value (hex_digit (b % 16))) then Some None else None in is_scanned next rest) low.is
        ∙ ap (λ (c : Bool). let next : Option Scan = if c then Some None else None in is_scanned next rest) (ap is_escaped whole ∙ e)
    by false e =
        ap (λ (c : Bool). let next : Option Scan = if c then Some (Some None) else (if is_escaped b then None else Some None) in is_scanned next rest) (not_mark b e)
        ∙ ap (λ (c : Bool). let next : Option Scan = if c then None else Some None in is_scanned next rest) e

pub written_is : (path : Text) → AllByRecursion (λ b. b < 256) path → is_written (written path) ≡ true
written_is [] all = refl
written_is (b ∷ path) all = byte_scans b (written path) all.0 ∙ written_is path all.1
