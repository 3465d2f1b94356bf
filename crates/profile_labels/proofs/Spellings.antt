-- Texts that are the spelling of their own value.
use Rattle.std.proofs.Common.{◌≡◌, ℕ, ◌^◌, ◌<◌, ◌≤◌, Bool, true, false, not, ◌&&◌, ◌==◌, nat_le, drop, decimal, get_or, cond, refl, sym, ap, subst, ◌∙◌, arith}
use Rattle.std.specs.Str.{bytes_eq, IsUtf8}
use Rattle.std.specs.Str.Parse.{digits_value, without_leading_plus, IsNumeral}
use Rattle.std.proofs.lemmas.Fmt.{decimal_is_IsNumeral, IsAscii-decimal}
use Rattle.std.proofs.lemmas.Str.{IsUtf8-from_ascii}
use Rattle.std.proofs.lemmas.Str.Parse.{digit_at}
use Rattle.std.proofs.lemmas.Slice.Eq.{bytes_eq-Decides}
use Rattle.std.proofs.lemmas.Bool.{and_parts, leb-true, le-leb}
use Rattle.coz_types.specs.Labels.{Text, is_decimal}

pub spelled : (most : ℕ) (text : Text) → is_decimal most text ≡ true → (text ≡ decimal (digits_value 10 text)) × (digits_value 10 text ≤ most)
spelled most text e = let h = and_parts (bytes_eq text (decimal (digits_value 10 text))) (nat_le (digits_value 10 text) most) e in ((bytes_eq-Decides _ _).0 h.0, leb-true _ _ h.1)

pub not_so : (b : Bool) → (b ≡ true → ⊥) → b ≡ false
not_so true never = absurd (never refl)
not_so false never = refl

pub no_plus : (n : ℕ) → n < 2 ^ 64 → without_leading_plus (decimal n) ≡ decimal n
no_plus n lt =
    let numeral = decimal_is_IsNumeral n lt in
    let digit = digit_at (decimal n) 0 numeral.0.1 numeral.0.0 in
    let other : (get_or (decimal n) 0 0 == 43) ≡ false = grind (arith, digit) in
    ap (λ (b : Bool). drop (cond b 1 0) (decimal n)) other

pub not_utf8 : (most : ℕ) (text : Text) → most < 2 ^ 64 → (IsUtf8 text → ⊥) → is_decimal most text ≡ false
not_utf8 most text small never = not_so _ (λ e.
    let h = spelled most text e in
    let le = h.1 in
    never (subst IsUtf8 (sym h.0) (IsUtf8-from_ascii _ (IsAscii-decimal _ (omega arith)))))

plain : (most : ℕ) (text : Text) → most < 2 ^ 64 → is_decimal most text ≡ true → without_leading_plus text ≡ text
plain most text small e =
    let h = spelled most text e in
    let le = h.1 in
    ap without_leading_plus h.0 ∙ no_plus (digits_value 10 text) (omega arith) ∙ sym h.0

pub not_numeral : (most : ℕ) (text word : Text) → most < 2 ^ 64 → word ≡ text → (IsNumeral 10 (without_leading_plus word) × (digits_value 10 (without_leading_plus word) < 2 ^ 64) → ⊥) → is_decimal most text ≡ false
not_numeral most text word small same never = not_so _ (λ e.
    let h = spelled most text e in
    let le = h.1 in
    let lt : digits_value 10 text < 2 ^ 64 = omega arith in
    let P : Text → Type 0 = λ t. IsNumeral 10 t × (digits_value 10 t < 2 ^ 64) in
    let numeral = subst (IsNumeral 10) (sym h.0) (decimal_is_IsNumeral (digits_value 10 text) lt).0 in
    never (subst P (sym (ap without_leading_plus same ∙ plain most text small e)) (numeral, lt)))

pub not_written : (most : ℕ) (text word : Text) (number : ℕ) → most < 2 ^ 64 → word ≡ text → number ≡ digits_value 10 (without_leading_plus word) → (text ≡ decimal number → number ≤ most → ⊥) → is_decimal most text ≡ false
not_written most text word number small from is never = not_so _ (λ e.
    let h = spelled most text e in
    let same : number ≡ digits_value 10 text = is ∙ ap (λ (t : Text). digits_value 10 (without_leading_plus t)) from ∙ ap (digits_value 10) (plain most text small e) in
    let le = h.1 in
    never (h.0 ∙ ap decimal (sym same)) (omega arith))

pub is_written : (most : ℕ) (text : Text) (number : ℕ) → most < 2 ^ 64 → text ≡ decimal number → number ≤ most → (is_decimal most text ≡ true) × (number ≡ digits_value 10 text)
is_written most text number small e le =
    let same : digits_value 10 text ≡ number = ap (digits_value 10) e ∙ (decimal_is_IsNumeral number (omega arith)).1 in
    let one : bytes_eq text (decimal (digits_value 10 text)) ≡ true = (bytes_eq-Decides _ _).1 (e ∙ ap decimal (sym same)) in
    let two : nat_le (digits_value 10 text) most ≡ true = le-leb _ _ (omega arith) in
    (ap (λ (b : Bool). b && nat_le (digits_value 10 text) most) one ∙ two, sym same)

pub differ : (a b d : Text) → b ≡ d → true ≡ not (bytes_eq a b) → a ≡ d → ⊥
differ a b d same e eq = let h : bytes_eq a b ≡ true = (bytes_eq-Decides a b).1 (eq ∙ sym same) in let k : true ≡ false = e ∙ ap not h in absurd cc

pub agree : (a b d : Text) → b ≡ d → false ≡ not (bytes_eq a b) → a ≡ d
agree a b d same e = (bytes_eq-Decides a b).0 (yes_is (bytes_eq a b) e) ∙ same
  where
    yes_is : (x : Bool) → false ≡ not x → x ≡ true
    yes_is true e = refl
    yes_is false e = absurd cc
