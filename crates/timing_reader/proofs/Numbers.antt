-- A number is read back in front of a byte that is no digit.
use Rattle.std.proofs.Common.{◌≡◌, ℕ, ◌^◌, ◌<◌, ◌≤◌, Bool, true, false, not, ◌&&◌, nat_le, [], ◌∷◌, ◌++◌, length, take, drop, get_or, decimal, Option, Some, None, option_and_then, refl, sym, ap, ◌∙◌, subst, arith, if◌then◌else◌}
use Rattle.std.specs.List.{prefix_len}
use Rattle.std.specs.Str.Parse.{digits_value}
use Rattle.std.proofs.lemmas.Bool.{leb-true, le-leb}
use Rattle.std.proofs.lemmas.Fmt.{decimal_is_IsNumeral}
use Rattle.std.proofs.lemmas.List.{take_at, drop_at, take-append-drop, get_or_append_left, get_or_at, length-append}
use Rattle.std.proofs.lemmas.List.Sums.{prefix_len_is}
use Rattle.std.proofs.lemmas.Slice.Eq.{bytes_eq-Decides}
use Rattle.std.proofs.lemmas.Str.Parse.{digit_at}
use Rattle.coz_types.specs.Labels.{Text, is_decimal}
use Rattle.profile_labels.proofs.Spellings.{spelled, is_written}
use Rattle.timing_reader.specs.Reading.{is_digit, digits_of, after_digits, number, begins, after, named_number}

both_true : (a b : Bool) → (a && b) ≡ true → (a ≡ true) × (b ≡ true)
both_true true b e = (refl, e)
both_true false b e = absurd cc

pub if_some : {A : Type 0} (b : Bool) (o : Option A) (y : A) → (if b then o else None) ≡ Some y → (b ≡ true) × (o ≡ Some y)
if_some true o y e = (refl, e)
if_some false o y e = absurd cc

pub then_some : {A B : Type 0} (o : Option A) (f : A → Option B) (y : B) → option_and_then f o ≡ Some y → (x : A) × (o ≡ Some x) × (f x ≡ Some y)
then_some None f y e = absurd cc
then_some (Some x) f y e = (x, refl, e)

-- ---- names

pub after_forth : (name text rest : Text) → after name text ≡ Some rest → text ≡ name ++ rest
after_forth name text rest e =
    let by = if_some (begins name text) (Some (drop (length name) text)) rest e in
    let some : Some (drop (length name) text) ≡ Some rest = by.1 in
    let tail : drop (length name) text ≡ rest = cc in
    let front : take (length name) text ≡ name = (bytes_eq-Decides (take (length name) text) name).0 by.0 in
    sym (take-append-drop (length name) text) ∙ ap (λ (t : Text). t ++ drop (length name) text) front ∙ ap (λ (t : Text). name ++ t) tail

pub begins_so : (name rest : Text) → begins name (name ++ rest) ≡ true
begins_so name rest = (bytes_eq-Decides (take (length name) (name ++ rest)) name).1 (take_at name rest (length name) refl)

pub after_back : (name rest : Text) → after name (name ++ rest) ≡ Some rest
after_back name rest =
    ap (λ (b : Bool). if b then Some (drop (length name) (name ++ rest)) else None) (begins_so name rest)
    ∙ ap (λ (t : Text). Some t) (drop_at name rest (length name) refl)

-- ---- numbers

-- what reading a number says of the text
pub record Numbered (least most : ℕ) (text : Text) (n : ℕ) (rest : Text) : Type 0 where
  pub whole : text ≡ decimal n ++ rest
  pub low : least ≤ n
  pub high : n ≤ most

pub number_forth : (least most : ℕ) (text : Text) (n : ℕ) (rest : Text) → number least most text ≡ Some (n, rest) → Numbered least most text n rest
number_forth least most text n rest e =
    let value = digits_value 10 (digits_of text) in
    let by = if_some (is_decimal most (digits_of text) && nat_le least value) (Some (value, after_digits text)) (n, rest) e in
    let tests = both_true (is_decimal most (digits_of text)) (nat_le least value) by.0 in
    let some : Some (value, after_digits text) ≡ Some (n, rest) = by.1 in
    let both : (value, after_digits text) ≡ (n, rest) = cc in
    let same : value ≡ n = ap (λ (x : ℕ × Text). x.0) both in
    let tail : after_digits text ≡ rest = ap (λ (x : ℕ × Text). x.1) both in
    let spelling = spelled most (digits_of text) tests.0 in
    record {
      whole =
          sym (take-append-drop (prefix_len is_digit text) text)
          ∙ ap (λ (t : Text). t ++ after_digits text) (spelling.0 ∙ ap decimal same)
          ∙ ap (λ (t : Text). decimal n ++ t) tail;
      low = subst (λ (m : ℕ). least ≤ m) same (leb-true least value tests.1);
      high = subst (λ (m : ℕ). m ≤ most) same spelling.1;
    }

is_one : (b : ℕ) → 48 ≤ b → b ≤ 57 → is_digit b ≡ true
is_one b low high = ap (λ (x : Bool). x && nat_le b 57) (le-leb 48 b low) ∙ le-leb b 57 high

-- the digits of a number, in front of a byte that is no digit
length_is : (n stop : ℕ) (rest : Text) → n < 2 ^ 64 → is_digit stop ≡ false → prefix_len is_digit (decimal n ++ stop ∷ rest) ≡ length (decimal n)
length_is n stop rest fits none =
    let numeral = decimal_is_IsNumeral n fits in
    prefix_len_is is_digit (decimal n ++ stop ∷ rest) (length (decimal n)) 0 (omega (arith, length-append (decimal n) (stop ∷ rest)))
    (λ k lt. let at = digit_at (decimal n) k numeral.0.1 lt in ap is_digit (get_or_append_left (decimal n) (stop ∷ rest) 0 k lt) ∙ is_one (get_or (decimal n) k 0) at.0 at.1)
    (λ lt. ap is_digit (get_or_at (decimal n) stop rest 0 (length (decimal n)) refl) ∙ none)

pub number_back : (least most n stop : ℕ) (rest : Text) → most < 2 ^ 64 → least ≤ n → n ≤ most → is_digit stop ≡ false → number least most (decimal n ++ stop ∷ rest) ≡ Some (n, stop ∷ rest)
number_back least most n stop rest small low high none =
    let text = decimal n ++ stop ∷ rest in
    let size : prefix_len is_digit text ≡ length (decimal n) = length_is n stop rest (omega (arith, small, high)) none in
    let front : digits_of text ≡ decimal n = ap (λ k. take k text) size ∙ take_at (decimal n) (stop ∷ rest) (length (decimal n)) refl in
    let tail : after_digits text ≡ stop ∷ rest = ap (λ k. drop k text) size ∙ drop_at (decimal n) (stop ∷ rest) (length (decimal n)) refl in
    let written = is_written most (decimal n) n small refl high in
    let tests : (is_decimal most (decimal n) && nat_le least (digits_value 10 (decimal n))) ≡ true =
    ap (λ (b : Bool). b && nat_le least (digits_value 10 (decimal n))) written.0 ∙ ap (nat_le least) (sym written.1) ∙ le-leb least n low in
    ap (λ (t : Text). if is_decimal most t && nat_le least (digits_value 10 t) then Some (digits_value 10 t, after_digits text) else None) front
    ∙ ap (λ (b : Bool). if b then Some (digits_value 10 (decimal n), after_digits text) else None) tests
    ∙ ap (λ (m : ℕ). Some (m, after_digits text)) (sym written.1)
    ∙ ap (λ (t : Text). Some (n, t)) tail

-- ---- numbers after names

pub record Named (name : Text) (least most : ℕ) (text : Text) (n : ℕ) (rest : Text) : Type 0 where
  pub whole : text ≡ name ++ (decimal n ++ rest)
  pub low : least ≤ n
  pub high : n ≤ most

pub named_forth : (name : Text) (least most : ℕ) (text : Text) (x : ℕ × Text) → named_number name least most text ≡ Some x → Named name least most text x.0 x.1
named_forth name least most text x e =
    let found = then_some (after name text) (number least most) x e in
    let behind = number_forth least most found.0 x.0 x.1 found.2 in
    record {
      whole = after_forth name text found.0 found.1 ∙ ap (λ (t : Text). name ++ t) behind.whole;
      low = behind.low;
      high = behind.high;
    }

named_back : (name : Text) (least most n stop : ℕ) (rest : Text) → most < 2 ^ 64 → least ≤ n → n ≤ most → is_digit stop ≡ false → named_number name least most (name ++ (decimal n ++ stop ∷ rest)) ≡ Some (n, stop ∷ rest)
named_back name least most n stop rest small low high none =
    ap (λ (o : Option Text). option_and_then (number least most) o) (after_back name (decimal n ++ stop ∷ rest))
    ∙ number_back least most n stop rest small low high none

-- the text begins with a byte that is no digit
abbrev pub stops : Text → Bool
stops [] = false
stops (b ∷ rest) = not (is_digit b)

pub named_on : (name : Text) (least most n : ℕ) (rest : Text) → most < 2 ^ 64 → least ≤ n → n ≤ most → stops rest ≡ true → named_number name least most (name ++ (decimal n ++ rest)) ≡ Some (n, rest)
named_on name least most n [] small low high e = absurd cc
named_on name least most n (b ∷ rest) small low high e = named_back name least most n b rest small low high (no_digit (is_digit b) e)
  where
    no_digit : (x : Bool) → not x ≡ true → x ≡ false
    no_digit true is = absurd cc
    no_digit false is = refl
