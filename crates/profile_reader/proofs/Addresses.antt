-- Addresses that are the spelling of their own value.
use Rattle.std.proofs.Common.{rules, ◌≡◌, ℕ, zero, suc, ◌^◌, ◌<◌, ◌≤◌, Bool, true, false, ◌&&◌, ◌==◌, nat_le, nat_lt, [], ◌∷◌, ◌++◌, length, take, drop, codes, get_or, cond, refl, sym, ap, subst, ◌∙◌, arith}
use Rattle.std.specs.Str.{bytes_eq, IsUtf8}
use Rattle.std.specs.Fmt.{digits}
use Rattle.std.specs.Char.{digit_value}
use Rattle.std.specs.Str.Parse.{digits_value, without_leading_plus, IsNumeral, AllDigits}
use Rattle.std.proofs.lemmas.Fmt.{digits_is_IsNumeral}
use Rattle.std.proofs.lemmas.Str.{IsUtf8-from_ascii}
use Rattle.std.proofs.lemmas.Slice.Eq.{bytes_eq-Decides}
use Rattle.std.proofs.lemmas.Bool.{leb-true, le-leb, ltb-true, ltb-false}
use Rattle.std.proofs.lemmas.List.{take-append-drop}
use Rattle.coz_types.specs.Labels.{Text}
use Rattle.coz_types.specs.Endings.{address_text}
use Rattle.coz_types.specs.Ranges.{last_word}
use Rattle.profile_reader.specs.EndingSpellings.{is_address}
use Rattle.profile_reader.proofs.FieldSteps.{both, same_bytes}
use Rattle.profile_labels.proofs.Spellings.{not_so}

-- what an address's text is
pub address_is : (text : Text) → is_address text ≡ true → (text ≡ address_text (digits_value 16 (drop 2 text))) × (digits_value 16 (drop 2 text) ≤ last_word)
address_is text e = let h = both (bytes_eq text (address_text (digits_value 16 (drop 2 text)))) (nat_le (digits_value 16 (drop 2 text)) last_word) e in (same_bytes _ _ h.0, leb-true _ _ h.1)

small : (n : ℕ) → n ≤ last_word → n < 16 ^ 64
small n le = omega arith

numeral : (n : ℕ) → n ≤ last_word → IsNumeral 16 (digits 16 false n) × (digits_value 16 (digits 16 false n) ≡ n)
numeral n le = digits_is_IsNumeral 16 false (omega arith) (omega arith) n (small n le)

behind : (text : Text) → is_address text ≡ true → drop 2 text ≡ digits 16 false (digits_value 16 (drop 2 text))
behind text e = ap (λ (t : Text). drop 2 t) (address_is text e).0

pub right_address : (text : Text) (number : ℕ) → bytes_eq (take 2 text) (codes "0x") ≡ true → drop 2 text ≡ digits 16 false number → number ≤ last_word → (is_address text ≡ true) × (number ≡ digits_value 16 (drop 2 text))
right_address text number prefixed e le =
    let same : digits_value 16 (drop 2 text) ≡ number = ap (digits_value 16) e ∙ (numeral number le).1 in
    let front : take 2 text ≡ codes "0x" = same_bytes _ _ prefixed in
    let whole : text ≡ address_text (digits_value 16 (drop 2 text)) = sym (take-append-drop 2 text) ∙ ap (λ (t : Text). t ++ drop 2 text) front ∙ ap (λ (t : Text). codes "0x" ++ t) e ∙ ap address_text (sym same) in
    let one = (bytes_eq-Decides text (address_text (digits_value 16 (drop 2 text)))).1 whole in
    let two : nat_le (digits_value 16 (drop 2 text)) last_word ≡ true = le-leb _ _ (omega arith) in
    (ap (λ (b : Bool). b && nat_le (digits_value 16 (drop 2 text)) last_word) one ∙ two, sym same)

plus_is_none : (ds : Text) → 0 < length ds → AllDigits 16 ds → (get_or ds 0 0 == 43) ≡ false
plus_is_none [] some all = absurd (omega arith)
plus_is_none (d ∷ ds) some all = by (d == 43) refl
  where
    by : (c : Bool) → (d == 43) ≡ c → c ≡ false
    by true e = let same : d ≡ 43 = search (rules, e) in let P : ℕ → Type 0 = λ n. digit_value n < 16 in let never : digit_value 43 < 16 = subst P same all.0 in absurd (omega arith)
    by false e = refl

no_plus : (n : ℕ) → n ≤ last_word → without_leading_plus (digits 16 false n) ≡ digits 16 false n
no_plus n le = let h = numeral n le in ap (λ (b : Bool). drop (cond b 1 0) (digits 16 false n)) (plus_is_none (digits 16 false n) h.0.0 h.0.1)

pub not_number : (text word : Text) → word ≡ drop 2 text → (IsNumeral 16 (without_leading_plus word) × (digits_value 16 (without_leading_plus word) < 2 ^ 64) → ⊥) → is_address text ≡ false
not_number text word same never = not_so _ (λ d.
    let n = digits_value 16 (drop 2 text) in
    let le = (address_is text d).1 in
    let text_is = behind text d in
    let lt : n < 2 ^ 64 = omega arith in
    let plain : without_leading_plus word ≡ drop 2 text = ap without_leading_plus (same ∙ text_is) ∙ no_plus n le ∙ sym text_is in
    let P : Text → Type 0 = λ t. IsNumeral 16 t × (digits_value 16 t < 2 ^ 64) in
    let is = subst (IsNumeral 16) (sym text_is) (numeral n le).0 in
    never (subst P (sym plain) (is, lt)))

pub not_spelled : (text word : Text) (number : ℕ) → word ≡ drop 2 text → number ≡ digits_value 16 (without_leading_plus word) → (drop 2 text ≡ digits 16 false number → ⊥) → is_address text ≡ false
not_spelled text word number same is never = not_so _ (λ d.
    let n = digits_value 16 (drop 2 text) in
    let le = (address_is text d).1 in
    let text_is = behind text d in
    let plain : without_leading_plus word ≡ drop 2 text = ap without_leading_plus (same ∙ text_is) ∙ no_plus n le ∙ sym text_is in
    let equal : number ≡ n = is ∙ ap (digits_value 16) plain in
    never (text_is ∙ ap (digits 16 false) (sym equal)))

not_below : (d k : ℕ) → k ≤ d → nat_lt d k ≡ false
not_below d k le = grind (arith, le)

digit_small : (d : ℕ) → digit_value d < 16 → d < 128
digit_small d lt = by (nat_lt d 128) refl
  where
    by : (c : Bool) → nat_lt d 128 ≡ c → d < 128
    by true e = ltb-true d 128 e
    by false e =
        let le : 128 ≤ d = ltb-false d 128 e in
        let big : digit_value d ≡ 36 = rw (not_below d 48 (omega arith), not_below d 58 (omega arith), not_below d 65 (omega arith), not_below d 91 (omega arith), not_below d 97 (omega arith), not_below d 123 (omega arith)) refl in
        absurd (omega arith)

ascii_is : (ds : Text) → AllDigits 16 ds → (i : ℕ) → get_or ds i 0 < 128
ascii_is [] all i = omega arith
ascii_is (d ∷ ds) all zero = digit_small d all.0
ascii_is (d ∷ ds) all (suc i) = ascii_is ds all.1 i

pub not_text : (text digits : Text) → digits ≡ drop 2 text → (IsUtf8 digits → ⊥) → is_address text ≡ false
not_text text digits same never = not_so _ (λ d. never (subst IsUtf8 (sym (same ∙ behind text d)) (IsUtf8-from_ascii _ (ascii_is _ (numeral _ (address_is text d).1).0.1))))
