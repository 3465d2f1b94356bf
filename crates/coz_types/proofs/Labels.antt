-- A label of a path and a number: its parts, that it is right, and its place in the order.
use Rattle.std.proofs.Common.{rules, ◌≡◌, ℕ, ◌<◌, ◌^◌, Bool, true, false, not, ◌&&◌, ◌==◌, nat_lt, nat_le, [], ◌∷◌, ◌++◌, decimal, Option, Some, None, refl, sym, ap, ap₂, subst, ◌∙◌, arith, if◌then◌else◌}
use Rattle.std.specs.Cmp.Lexicographic.{slice_cmp}
use Rattle.std.specs.Ordering.{is_lt, nat_cmp, ordering_then}
use Rattle.std.specs.Str.{bytes_eq}
use Rattle.std.specs.Str.Parse.{digits_value, AllDigits}
use Rattle.std.specs.Char.{digit_value}
use Rattle.std.proofs.lemmas.Fmt.{decimal_is_IsNumeral}
use Rattle.std.proofs.lemmas.Slice.Eq.{bytes_eq-Decides}
use Rattle.std.proofs.lemmas.Bool.{le-leb, lt-ltb}
use Rattle.coz_types.specs.Labels.{Text, is_empty, is_written, label_of, parts_of, line_number, path_of, number_of, is_label, label_before}

-- digits have no colon
no_colon : (ds : Text) → AllDigits 10 ds → parts_of ds ≡ None
no_colon [] all = refl
no_colon (d ∷ ds) all = ap (λ (p : Option (Text × Text)). elim p [ Some p ↦ Some (d ∷ p.0, p.1) | None ↦ if d == 58 then Some ([], ds) else None ]) (no_colon ds all.1) ∙ by (d == 58) refl
  where
    by : (c : Bool) → (d == 58) ≡ c → (let none : Option (Text × Text) = if c then Some ([], ds) else None in none) ≡ None
    by true e = let same : d ≡ 58 = search (rules, e) in let P : ℕ → Type 0 = λ n. digit_value n < 10 in let never : digit_value 58 < 10 = subst P same all.0 in absurd (omega arith)
    by false e = refl

divided : (path rest : Text) → parts_of rest ≡ None → parts_of (path ++ 58 ∷ rest) ≡ Some (path, rest)
divided [] rest e = ap (λ (p : Option (Text × Text)). elim p [ Some p ↦ Some (58 ∷ p.0, p.1) | None ↦ Some ([], rest) ]) e
divided (b ∷ path) rest e = ap (λ (p : Option (Text × Text)). elim p [ Some p ↦ Some (b ∷ p.0, p.1) | None ↦ if b == 58 then Some ([], path ++ 58 ∷ rest) else None ]) (divided path rest e)

pub parts_are : (path : Text) (n : ℕ) → n < 2 ^ 32 → parts_of (label_of path n) ≡ Some (path, decimal n)
parts_are path n lt = divided path (decimal n) (no_colon (decimal n) (decimal_is_IsNumeral n (omega arith)).0.1)

-- the spelling of a number is read as that number
pub number_is : (n : ℕ) → n < 2 ^ 32 → line_number (decimal n) ≡ n
number_is n lt =
    let value : digits_value 10 (decimal n) ≡ n = (decimal_is_IsNumeral n (omega arith)).1 in
    let spelled : bytes_eq (decimal n) (decimal (digits_value 10 (decimal n))) ≡ true = (bytes_eq-Decides _ _).1 (ap decimal (sym value)) in
    let small : nat_le (digits_value 10 (decimal n)) 4294967295 ≡ true = ap (λ (m : ℕ). nat_le m 4294967295) value ∙ le-leb _ _ (omega arith) in
    ap₂ (λ (a b : Bool). if a && b then digits_value 10 (decimal n) else 0) spelled small ∙ value

pub path_of_label : (path : Text) (n : ℕ) → n < 2 ^ 32 → path_of (label_of path n) ≡ path
path_of_label path n lt = ap (λ (p : Option (Text × Text)). elim p [ Some p ↦ p.0 | None ↦ label_of path n ]) (parts_are path n lt)

pub number_of_label : (path : Text) (n : ℕ) → n < 2 ^ 32 → number_of (label_of path n) ≡ n
number_of_label path n lt = ap (λ (p : Option (Text × Text)). elim p [ Some p ↦ line_number p.1 | None ↦ 0 ]) (parts_are path n lt) ∙ number_is n lt

pub label_is : (path : Text) (n : ℕ) → is_empty path ≡ false → is_written path ≡ true → 0 < n → n < 2 ^ 32 → is_label (label_of path n) ≡ true
label_is path n some is positive lt =
    ap (λ (p : Option (Text × Text)). elim p [ Some p ↦ not (is_empty p.0) && (is_written p.0 && nat_lt 0 (line_number p.1)) | None ↦ false ]) (parts_are path n lt)
    ∙ ap (λ (e : Bool). not e && (is_written path && nat_lt 0 (line_number (decimal n)))) some
    ∙ ap (λ (w : Bool). w && nat_lt 0 (line_number (decimal n))) is
    ∙ ap (λ (m : ℕ). nat_lt 0 m) (number_is n lt)
    ∙ lt-ltb 0 n positive

-- labels are ordered as their paths and numbers
pub before_is : (path other : Text) (n m : ℕ) → n < 2 ^ 32 → m < 2 ^ 32 → label_before (label_of path n) (label_of other m) ≡ is_lt (ordering_then (slice_cmp nat_cmp path other) (nat_cmp n m))
before_is path other n m lt lt' =
    ap₂ (λ (p q : Text). is_lt (ordering_then (slice_cmp nat_cmp p q) (nat_cmp (number_of (label_of path n)) (number_of (label_of other m))))) (path_of_label path n lt) (path_of_label other m lt')
    ∙ ap₂ (λ (i j : ℕ). is_lt (ordering_then (slice_cmp nat_cmp path other) (nat_cmp i j))) (number_of_label path n lt) (number_of_label other m lt')
