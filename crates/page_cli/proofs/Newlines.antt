-- A text is cut at its first newline.
use Rattle.std.proofs.Common.{◌≡◌, ℕ, ◌+◌, ◌-◌, ◌<◌, ◌≤◌, true, false, ◌∷◌, [], length, length-drop, take, drop, get_or, Option, Some, None, sym, ap, subst, ◌∙◌, arith}
use Rattle.std.specs.List.{AllWithin, slice_split, position_or_len}
use Rattle.std.proofs.lemmas.List.Sums.{position_or_len_is}
use Rattle.std.proofs.lemmas.List.Splits.{slice_split_none, slice_split_first}
use Rattle.std.proofs.lemmas.List.{take_all}
use Rattle.coz_types.specs.Labels.{Text}
use Rattle.page_cli.specs.Lines.{is_newline, lines_in}

pub first : (text : Text) (place : ℕ) → place ≤ length text → ((k : ℕ) → k < place → is_newline (get_or text k 0) ≡ false) → (place < length text → is_newline (get_or text place 0) ≡ true)
    → place ≡ position_or_len is_newline text
first text place within none there = sym (position_or_len_is is_newline text place 0 within none there)

pub one_line : (text : Text) → AllWithin (λ b. is_newline b ≡ false) text 0 (length text) → lines_in text ≡ text ∷ []
one_line text none = slice_split_none is_newline text (λ i d lt. none i d (omega arith) lt)

pub first_and_rest : (text : Text) (place : ℕ) → place ≡ position_or_len is_newline text → place < length text
    → lines_in text ≡ take place text ∷ lines_in (take (length text - (place + 1)) (drop (place + 1) text))
first_and_rest text place is lt =
    let rest = drop (place + 1) text in
    subst (λ (n : ℕ). slice_split is_newline text ≡ take n text ∷ slice_split is_newline (drop (n + 1) text)) (sym is) (slice_split_first is_newline text 0 (omega (arith, is, lt)))
    ∙ ap (λ (t : Text). take place text ∷ slice_split is_newline t) (sym (take_all (length text - (place + 1)) rest (omega (arith, length-drop (place + 1) text))))

-- how long a text is: less with each line that is taken
abbrev pub length_left : Option Text → ℕ
length_left None = 0
length_left (Some text) = 1 + length text
