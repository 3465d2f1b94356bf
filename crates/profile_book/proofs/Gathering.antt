-- Lists of lines on their way to a sink, and the digits of digests.
use Rattle.std.proofs.Common.{rules, ◌≡◌, ℕ, suc, ◌+◌, ◌/◌, ◌%◌, ◌<◌, ◌≤◌, Bool, true, false, ◌==◌, List, [], ◌∷◌, ◌++◌, length, take, get_or, Option, refl, sym, ap, subst, ◌∙◌, arith, append_assoc}
use Rattle.std.specs.List.{flat_map, enumerate_from}
use Rattle.std.specs.Fmt.{digits, digit_glyph}
use Rattle.std.proofs.lemmas.Fmt.{hex_one_digit}
use Rattle.std.proofs.lemmas.List.{take_more, take_all, flat_map_more}
use Rattle.std.proofs.lemmas.List.FromFn.{length-enumerate_from, get_or-enumerate_from}
use Rattle.hex.specs.Hex.{encode_with, encode_lower, lower_digits}
use Rattle.coz_types.specs.Labels.{Text}
use Rattle.coz_files.specs.Gathered.{Rest, Gathers}
use Rattle.coz_files.proofs.GatheredLemmas.{gathers_then}
use Rattle.profile_book.specs.Profile.{hex_text}
use Rattle.std.proofs.lemmas.Bool.{agree_below, agree_below_at}

pub gathers_as : {S : Type 0} {holds : S → Option Text} {faults : S → ℕ} {old new : S} {rest left : Rest} {xs ys : Text} → xs ≡ ys → Gathers holds faults old new rest left xs → Gathers holds faults old new rest left ys
gathers_as {holds = holds} {faults = faults} {old = old} {new = new} {rest = rest} {left = left} e all = subst (Gathers holds faults old new rest left) e all

-- from a buffer that is known
pub gathers_from : {S : Type 0} {holds : S → Option Text} {faults : S → ℕ} {old new : S} {rest start left : Rest} {xs : Text} → rest ≡ start → Gathers holds faults old new rest left xs → Gathers holds faults old new start left xs
gathers_from {holds = holds} {faults = faults} {old = old} {new = new} {left = left} {xs = xs} e all = subst (λ (r : Rest). Gathers holds faults old new r left xs) e all

-- one more line of a list
pub line_more : {X : Type 0} {S : Type 0} {holds : S → Option Text} {faults : S → ℕ} {old mid new : S} {rest between left : Rest} (f : X → Text) (xs : List X) (i : ℕ) (x : X) → i < length xs → get_or xs i x ≡ x → Gathers holds faults old mid rest between (flat_map f (take i xs)) → Gathers holds faults mid new between left (f x) → Gathers holds faults old new rest left (flat_map f (take (i + 1) xs))
line_more f xs i x lt e before more =
    gathers_as (flat_map_more f [] (take i xs) x ∙ ap (flat_map f) (sym (take_more xs i x lt ∙ ap (λ y. take i xs ++ y ∷ []) e))) (gathers_then before more)

pub lines_whole : {X : Type 0} {S : Type 0} {holds : S → Option Text} {faults : S → ℕ} {old new : S} {rest left : Rest} (f : X → Text) (xs : List X) (i : ℕ) → length xs ≤ i → Gathers holds faults old new rest left (flat_map f (take i xs)) → Gathers holds faults old new rest left (flat_map f xs)
lines_whole f xs i le all = gathers_as (ap (flat_map f) (take_all i xs le)) all

-- the same of a list with places
pub placed_more : {X : Type 0} {S : Type 0} {holds : S → Option Text} {faults : S → ℕ} {old mid new : S} {rest between left : Rest} (f : ℕ × X → Text) (xs : List X) (i : ℕ) (x : X) → i < length xs → get_or xs i x ≡ x → Gathers holds faults old mid rest between (flat_map f (take i (enumerate_from 0 xs))) → Gathers holds faults mid new between left (f (i, x)) → Gathers holds faults old new rest left (flat_map f (take (i + 1) (enumerate_from 0 xs)))
placed_more f xs i x lt e before more =
    let same : 0 + i ≡ i = omega arith in
    line_more f (enumerate_from 0 xs) i (i, x) (omega (arith, length-enumerate_from 0 xs)) (get_or-enumerate_from 0 xs i (i, x) lt ∙ ap (λ n. (n, get_or xs i x)) same ∙ ap (λ y. (i, y)) e) before more

pub placed_whole : {X : Type 0} {S : Type 0} {holds : S → Option Text} {faults : S → ℕ} {old new : S} {rest left : Rest} (f : ℕ × X → Text) (xs : List X) (i : ℕ) → length xs ≤ i → Gathers holds faults old new rest left (flat_map f (take i (enumerate_from 0 xs))) → Gathers holds faults old new rest left (flat_map f (enumerate_from 0 xs))
placed_whole f xs i le all = lines_whole f (enumerate_from 0 xs) i (omega (arith, length-enumerate_from 0 xs)) all

-- ---- digests

abbrev is_spelled : ℕ → Bool
is_spelled d = get_or lower_digits d 0 == digit_glyph false d

spelled_table : agree_below is_spelled (λ d. true) 16 ≡ true
spelled_table = refl

digit_is : (d : ℕ) → d < 16 → get_or lower_digits d 0 ∷ [] ≡ digits 16 false d
digit_is d lt = let e : get_or lower_digits d 0 ≡ digit_glyph false d = search (rules, agree_below_at is_spelled (λ d. true) 16 d spelled_table lt) in ap (λ (x : ℕ). x ∷ []) e ∙ sym (hex_one_digit false d lt)

pub hex_is : (bytes : Text) → ((k : ℕ) → k < length bytes → get_or bytes k 0 < 256) → encode_lower bytes ≡ hex_text bytes
unfolding encode_with
hex_is [] fits = refl
hex_is (b ∷ bytes) fits =
    let lt : b < 256 = fits 0 (omega arith) in
    let rest : encode_lower bytes ≡ hex_text bytes = hex_is bytes (λ k below. fits (suc k) (omega arith)) in
    ap (λ (t : Text). t ++ (get_or lower_digits (b % 16) 0 ∷ encode_lower bytes)) (digit_is (b / 16) (omega arith))
    ∙ ap (λ (t : Text). digits 16 false (b / 16) ++ (t ++ encode_lower bytes)) (digit_is (b % 16) (omega arith))
    ∙ sym (append_assoc (digits 16 false (b / 16)) (digits 16 false (b % 16)) (encode_lower bytes))
    ∙ ap (λ (t : Text). (digits 16 false (b / 16) ++ digits 16 false (b % 16)) ++ t) rest
