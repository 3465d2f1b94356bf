-- A line is cut at its last colon, and a list at its first comma.
use Rattle.std.proofs.Common.{◌≡◌, ℕ, suc, ◌+◌, ◌-◌, ◌<◌, ◌≤◌, Bool, true, false, not, ◌&&◌, nat_le, ◌∷◌, ◌++◌, [], length, length-drop, take, drop, get_or, Some, None, refl, sym, ap, subst, ◌∙◌, arith, if◌then◌else◌}
use Rattle.std.specs.Prelude.{is_some}
use Rattle.std.specs.List.{AllWithin, after_last, before_last, suffix_len, slice_split, position_or_len}
use Rattle.std.specs.Str.Parse.{digits_value}
use Rattle.std.proofs.lemmas.Bool.{eqb-true}
use Rattle.std.proofs.Math.Seq.{drop-cons}
use Rattle.std.proofs.lemmas.List.Sums.{suffix_len_is, position_or_len_is, prefix_len_stops}
use Rattle.std.proofs.lemmas.List.Splits.{slice_split_none, slice_split_first}
use Rattle.std.proofs.lemmas.List.{take_all, take-append-drop}
use Rattle.std.proofs.lemmas.Bool.{leb-true}
use Rattle.experiment_plan.specs.Lists.{Text, is_colon, is_comma, is_number, is_path, number_in, is_line, pieces}
use Rattle.experiment_plan.proofs.Bools.{both_true, not_not}

-- if a colon stands right before an offset and none after it, that is the offset after the last
pub behind : (text : Text) (offset : ℕ) → offset ≤ length text → ((k : ℕ) → offset ≤ k → k < length text → is_colon (get_or text k 0) ≡ false)
    → (0 < offset → is_colon (get_or text (offset - 1) 0) ≡ true) → suffix_len (λ b. not (is_colon b)) text ≡ length text - offset
behind text offset within none there = suffix_len_is (λ b. not (is_colon b)) text offset 0 within (λ k le lt. ap not (none k le lt)) (λ some. ap not (there some))

-- ---- the number of a line is one, and fits 32 bits

some_number : (least most : ℕ) (text : Text) → is_some (number_in least most text) ≡ true → (is_number text ≡ true) × (digits_value 10 text ≤ most)
some_number least most text e = by (is_number text && nat_le least (digits_value 10 text) && nat_le (digits_value 10 text) most) refl e
  where
    by : (b : Bool) → (is_number text && nat_le least (digits_value 10 text) && nat_le (digits_value 10 text) most) ≡ b → is_some (if b then Some (digits_value 10 text) else None) ≡ true
        → (is_number text ≡ true) × (digits_value 10 text ≤ most)
    by false t is = absurd cc
    by true t is =
        let outer = both_true (is_number text && nat_le least (digits_value 10 text)) (nat_le (digits_value 10 text) most) t in
        ((both_true (is_number text) (nat_le least (digits_value 10 text)) outer.0).0, leb-true (digits_value 10 text) most outer.1)

pub line_number : (text number : Text) → is_line text ≡ true → number ≡ after_last is_colon text → (is_number number ≡ true) × (digits_value 10 number ≤ 4294967295)
unfolding is_line
line_number text number line after =
    let is = (both_true (is_path (before_last is_colon text)) (is_some (number_in 1 4294967295 (after_last is_colon text))) line).1 in
    some_number 1 4294967295 number (subst (λ (n : Text). is_some (number_in 1 4294967295 n) ≡ true) (sym after) is)

-- ---- a list

pub first : (text : Text) (offset : ℕ) → offset ≤ length text → ((k : ℕ) → k < offset → is_comma (get_or text k 0) ≡ false) → (offset < length text → is_comma (get_or text offset 0) ≡ true)
    → offset ≡ position_or_len is_comma text
first text offset within none there = sym (position_or_len_is is_comma text offset 0 within none there)

pub one_piece : (text : Text) → AllWithin (λ b. is_comma b ≡ false) text 0 (length text) → pieces text ≡ text ∷ []
unfolding pieces
one_piece text none = slice_split_none is_comma text (λ i d lt. none i d (omega arith) lt)

pub first_and_rest : (text : Text) (offset : ℕ) → offset ≡ position_or_len is_comma text → offset < length text
    → pieces text ≡ take offset text ∷ pieces (take (length text - (offset + 1)) (drop (offset + 1) text))
unfolding pieces
first_and_rest text offset is lt =
    let rest = drop (offset + 1) text in
    subst (λ (n : ℕ). slice_split is_comma text ≡ take n text ∷ slice_split is_comma (drop (n + 1) text)) (sym is) (slice_split_first is_comma text 0 (omega (arith, is, lt)))
    ∙ ap (λ (t : Text). take offset text ∷ slice_split is_comma t) (sym (take_all (length text - (offset + 1)) rest (omega (arith, length-drop (offset + 1) text))))

-- the text is what stands before its first comma, the comma and the rest
pub cut_there : (text : Text) (offset : ℕ) → offset ≡ position_or_len is_comma text → offset < length text → text ≡ take offset text ++ 44 ∷ take (length text - (offset + 1)) (drop (offset + 1) text)
cut_there text offset is lt =
    let rest = drop (offset + 1) text in
    let stops : not (is_comma (get_or text (position_or_len is_comma text) 0)) ≡ false = prefix_len_stops (λ b. not (is_comma b)) text 0 (omega (arith, is, lt)) in
    let comma : get_or text offset 0 ≡ 44 = ap (λ k. get_or text k 0) is ∙ eqb-true (get_or text (position_or_len is_comma text) 0) 44 (not_not (is_comma (get_or text (position_or_len is_comma text) 0)) (sym stops)) in
    let on : suc offset ≡ offset + 1 = omega arith in
    sym (take-append-drop offset text)
    ∙ ap (λ (t : Text). take offset text ++ t) (drop-cons text offset 0 lt)
    ∙ ap (λ k. take offset text ++ get_or text offset 0 ∷ drop k text) on
    ∙ ap (λ b. take offset text ++ b ∷ rest) comma
    ∙ ap (λ (t : Text). take offset text ++ 44 ∷ t) (sym (take_all (length text - (offset + 1)) rest (omega (arith, length-drop (offset + 1) text))))
