-- Paths and names without zero bytes.
use Rattle.std.proofs.Common.{◌≡◌, ◌<◌, ℕ, suc, ◌+◌, ◌-◌, ◌^◌, Bool, true, false, ◌&&◌, ◌||◌, not, ◌==◌, List, [], ◌∷◌, ◌++◌, take, drop, get_or, length, Option, Some, None, refl, sym, ap, subst, ◌∙◌, arith, eqb-true, add-one, nat_lt}
use Rattle.std.specs.Prelude.{codes, bytes_eq}
use Rattle.std.specs.List.{AllByRecursion, AllPass}
use Rattle.std.proofs.lemmas.List.{length-drop, take_all}
use Rattle.std.proofs.lemmas.List.Elements.{All-from_recursion}
use Rattle.std.proofs.lemmas.Bool.{and_parts, ltb-true}
use Rattle.std.proofs.Math.Seq.{drop-cons}
use Rattle.coz_types.specs.Labels.{escape_of, is_empty, is_label, is_written, line_number, parts_of, path_of, written}
use Rattle.line_remap.specs.declared.location.Location.{Location}
use Rattle.line_remap.specs.Marks.{IsText, has_zero}

abbrev is_byte : ℕ → Bool
is_byte b = not (b == 0)

abbrev NoZeros : List ℕ → Type 0
NoZeros path = AllByRecursion (λ b. is_byte b ≡ true) path

or_parts : (a b : Bool) → (a || b) ≡ false → (a ≡ false) × (b ≡ false)
or_parts true b e = absurd cc
or_parts false b e = (refl, e)

-- what has no zero byte has none from any byte on
later : (front rest : List ℕ) → has_zero (front ++ rest) ≡ false → has_zero rest ≡ false
later [] rest e = e
later (b ∷ front) rest e = later front rest (or_parts (bytes_eq (take 3 (b ∷ front ++ rest)) (codes "%00")) (has_zero (front ++ rest)) e).1

raw_zeros : (raw : List ℕ) → has_zero (written raw) ≡ false → NoZeros raw
raw_zeros [] e = tt
raw_zeros (b ∷ raw) e = (by (b == 0) refl, raw_zeros raw (later (escape_of b) (written raw) e))
  where
    by : (t : Bool) → (b == 0) ≡ t → not t ≡ true
    by true is =
        let zero_here : b ≡ 0 = eqb-true b 0 is in
        let found : has_zero (escape_of 0 ++ written raw) ≡ false = subst (λ (n : ℕ). has_zero (escape_of n ++ written raw) ≡ false) zero_here e in
        absurd cc
    by false is = refl

pub raw_text : (raw path : List ℕ) → written raw ≡ path → has_zero path ≡ false → AllPass (λ b. not (b == 0)) raw
raw_text raw path is none = All-from_recursion (λ b. is_byte b ≡ true) raw (raw_zeros raw (ap has_zero is ∙ none))

pub raw_named : (raw path : List ℕ) → written raw ≡ path → 0 < length path → 0 < length raw
raw_named [] path is some = absurd (omega (arith, ap (λ (xs : List ℕ). length xs) is))
raw_named (b ∷ raw) path is some = omega arith

-- ---- the search for a zero byte

pub zero_next : (path : List ℕ) (i : ℕ) → i < length path → has_zero (drop i path) ≡ (bytes_eq (take 3 (drop i path)) (codes "%00") || has_zero (drop (i + 1) path))
zero_next path i lt =
    let split : drop i path ≡ get_or path i 0 ∷ drop (suc i) path = drop-cons path i 0 lt in
    ap has_zero split
    ∙ ap (λ xs. bytes_eq (take 3 xs) (codes "%00") || has_zero (drop (suc i) path)) (sym split)
    ∙ ap (λ (n : ℕ). bytes_eq (take 3 (drop i path)) (codes "%00") || has_zero (drop n path)) (sym (add-one i))

pub zero_passed : (path : List ℕ) (i : ℕ) (found : Bool) → i < length path → found ≡ bytes_eq (take 3 (drop i path)) (codes "%00") → found ≡ false → has_zero (drop (i + 1) path) ≡ has_zero (drop i path)
zero_passed path i found lt is none = sym (zero_next path i lt ∙ ap (λ t. t || has_zero (drop (i + 1) path)) (sym is ∙ none))

-- ---- the parts of a label

some_from : (text : List ℕ) → not (is_empty text) ≡ true → is_empty text ≡ false
some_from text e = by (is_empty text) e
  where
    by : (t : Bool) → not t ≡ true → t ≡ false
    by true e = absurd cc
    by false e = refl

pub location_right : (label path rest : List ℕ) (location : Location) → is_label label ≡ true → parts_of label ≡ Some (path, rest) → location.path.now ≡ path → location.number ≡ line_number rest → location.number < 2 ^ 32 → has_zero (path_of label) ≡ false → IsText location
location_right label path rest location right parts is_path is_number small none =
    let e : (not (is_empty path) && (is_written path && nat_lt 0 (line_number rest))) ≡ true =
    sym (ap (λ (o : Option (List ℕ × List ℕ)). elim o as (λ _. Bool) [ Some p ↦ not (is_empty p.0) && (is_written p.0 && nat_lt 0 (line_number p.1)) | None ↦ false ]) parts) ∙ right in
    let here : path_of label ≡ path = ap (λ (o : Option (List ℕ × List ℕ)). elim o as (λ _. List ℕ) [ Some p ↦ p.0 | None ↦ label ]) parts in
    let some = and_parts (not (is_empty path)) (is_written path && nat_lt 0 (line_number rest)) e in
    let more = and_parts (is_written path) (nat_lt 0 (line_number rest)) some.1 in
    let positive : 0 < line_number rest = ltb-true 0 (line_number rest) more.1 in
    record {
      named = ap is_empty is_path ∙ some_from path some.0;
      written = ap is_written is_path ∙ more.0;
      text = ap has_zero (is_path ∙ sym here) ∙ none;
      numbered = subst (λ n. 0 < n) (sym is_number) positive;
      small = small;
    }

pub rest_whole : (xs : List ℕ) (k : ℕ) → take (length xs - k) (drop k xs) ≡ drop k xs
rest_whole xs k = take_all (length xs - k) (drop k xs) (omega (arith, length-drop k xs))

pub some_length : (xs : List ℕ) → is_empty xs ≡ false → 0 < length xs
some_length [] e = absurd cc
some_length (b ∷ xs) e = omega arith
