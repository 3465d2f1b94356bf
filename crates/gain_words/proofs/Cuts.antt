-- A text is cut at its first `=`.
use Rattle.std.proofs.Common.{◌≡◌, ◌⊎◌, inl, inr, ℕ, ◌+◌, ◌-◌, ◌<◌, ◌≤◌, Bool, true, false, not, ◌∷◌, ◌++◌, length, length-drop, take, drop, get_or, Some, None, refl, sym, ap, ◌∙◌, arith, if◌then◌else◌}
use Rattle.std.specs.List.{AllWithin, list_any, position_or_len, after_first}
use Rattle.std.proofs.lemmas.Bool.{eqb-true, cases_lt}
use Rattle.std.proofs.lemmas.List.Folds.{list_any_at, list_any_none}
use Rattle.std.proofs.lemmas.List.Sums.{position_or_len_is, prefix_len_stops, split_at_first, fails_before_first}
use Rattle.std.proofs.lemmas.List.{take_all}
use Rattle.experiment_plan.proofs.Bools.{not_not}
use Rattle.gain_words.specs.Costs.{is_equals, name_in, value_in}
use Rattle.coz_words.specs.Said.{Text}

pub first : (text : Text) (offset : ℕ) → offset ≤ length text → ((k : ℕ) → k < offset → is_equals (get_or text k 0) ≡ false) → (offset < length text → is_equals (get_or text offset 0) ≡ true)
    → offset ≡ position_or_len is_equals text
first text offset within none there = sym (position_or_len_is is_equals text offset 0 within none there)

stops : (text : Text) → position_or_len is_equals text < length text → is_equals (get_or text (position_or_len is_equals text) 0) ≡ true
stops text lt = not_not (is_equals (get_or text (position_or_len is_equals text) 0)) (sym (prefix_len_stops (λ b. not (is_equals b)) text 0 lt))

-- the name and the value, with a first `=` at the offset
pub name_there : (text : Text) (offset : ℕ) → offset ≡ position_or_len is_equals text → take offset text ≡ name_in text
name_there text offset is = ap (λ n. take n text) is

pub value_there : (text : Text) (offset : ℕ) → offset ≡ position_or_len is_equals text → offset < length text → Some (take (length text - (offset + 1)) (drop (offset + 1) text)) ≡ value_in text
value_there text offset is lt =
    let some : list_any is_equals text ≡ true = list_any_at is_equals text offset 0 lt (ap (λ n. is_equals (get_or text n 0)) is ∙ stops text (omega (arith, is, lt))) in
    ap (λ (t : Text). Some t) (take_all (length text - (offset + 1)) (drop (offset + 1) text) (omega (arith, length-drop (offset + 1) text)) ∙ ap (λ n. drop (n + 1) text) is)
    ∙ sym (ap (λ (b : Bool). if b then Some (after_first is_equals text) else None) some)

-- with none
pub no_name : (text : Text) (offset : ℕ) → offset ≡ position_or_len is_equals text → length text ≤ offset → text ≡ name_in text
no_name text offset is le = sym (take_all offset text le) ∙ ap (λ n. take n text) is

pub no_value : (text : Text) → AllWithin (λ b. is_equals b ≡ false) text 0 (length text) → None ≡ value_in text
no_value text none =
    sym (ap (λ (b : Bool). if b then Some (after_first is_equals text) else None) (list_any_none is_equals text (λ k d lt. none k d (omega arith) lt)))

-- ---- the text of a name and its value

whole_name : (text : Text) → list_any is_equals text ≡ false → name_in text ≡ text
whole_name text none = by (cases_lt (position_or_len is_equals text) (length text))
  where
    by : (position_or_len is_equals text < length text) ⊎ (length text ≤ position_or_len is_equals text) → name_in text ≡ text
    by (inl lt) = let some = list_any_at is_equals text (position_or_len is_equals text) 0 lt (stops text lt) in absurd (let bad : true ≡ false = sym some ∙ none in cc)
    by (inr le) = take_all (position_or_len is_equals text) text le

has_one : (text : Text) → list_any is_equals text ≡ true → position_or_len is_equals text < length text
has_one text some = by (cases_lt (position_or_len is_equals text) (length text))
  where
    by : (position_or_len is_equals text < length text) ⊎ (length text ≤ position_or_len is_equals text) → position_or_len is_equals text < length text
    by (inl lt) = lt
    by (inr le) =
        let none = list_any_none is_equals text (λ k d lt. fails_before_first is_equals text k d (omega (arith, le, lt))) in
        absurd (let bad : true ≡ false = sym some ∙ none in cc)

both_parts : (text : Text) → list_any is_equals text ≡ true → text ≡ name_in text ++ 61 ∷ after_first is_equals text
both_parts text some =
    let lt = has_one text some in
    split_at_first is_equals text 0 lt
    ∙ ap (λ (b : ℕ). name_in text ++ b ∷ after_first is_equals text) (eqb-true (get_or text (position_or_len is_equals text) 0) 61 (stops text lt))

value_by : (b : Bool) (after value : Text) → (if b then Some after else None) ≡ Some value → (b ≡ true) × (after ≡ value)
value_by true after value e = (refl, cc)
value_by false after value e = absurd cc

none_by : (b : Bool) (after : Text) → (if b then Some after else None) ≡ None → b ≡ false
none_by true after e = absurd cc
none_by false after e = refl

pub with_a_value : (text name value : Text) → name_in text ≡ name → value_in text ≡ Some value → text ≡ name ++ (61 ∷ value)
with_a_value text name value is has =
    let by = value_by (list_any is_equals text) (after_first is_equals text) value has in
    both_parts text by.0 ∙ ap (λ (t : Text). t ++ 61 ∷ after_first is_equals text) is ∙ ap (λ (t : Text). name ++ 61 ∷ t) by.1

pub with_no_value : (text name : Text) → name_in text ≡ name → value_in text ≡ None → text ≡ name
with_no_value text name is none =
    sym (whole_name text (none_by (list_any is_equals text) (after_first is_equals text) none)) ∙ is
