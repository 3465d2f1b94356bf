-- Regions that words name.
use Rattle.std.proofs.Common.{◌≡◌, ℕ, ◌-◌, ◌<◌, ◌≤◌, Bool, true, false, not, List, [], ◌∷◌, ◌++◌, length, get_or, Option, Some, None, Result, Ok, Err, refl, sym, ap, subst, ◌∙◌}
use Rattle.std.specs.Prelude.{is_some, if◌then◌else◌, ◌&&◌, nat_le}
use Rattle.std.specs.Str.Parse.{digits_value}
use Rattle.std.specs.List.{after_last, before_last, suffix_len}
use Rattle.std.proofs.lemmas.Bool.{leb-true}
use Rattle.std.proofs.lemmas.List.{append_assoc}
use Rattle.std.proofs.lemmas.List.Sums.{suffix_len_is}
use Rattle.coz_types.specs.Labels.{Text}
use Rattle.experiment_plan.specs.Lists.{is_colon, is_line, is_number, is_path, line_parts, number_in, pieces, pieces_left}
use Rattle.experiment_plan.proofs.Bools.{both_true}
use Rattle.line_index.specs.Lines.{Line}
use Rattle.line_regions.specs.Regions.{Region}
use Rattle.functions_cli.specs.Regions.{is_hyphen, region_named, regions_of_pieces, with_region}

-- if a hyphen stands right before an offset and none after it, that is the offset after the last
pub behind : (text : Text) (offset : ℕ) → offset ≤ length text → ((k : ℕ) → offset ≤ k → k < length text → is_hyphen (get_or text k 0) ≡ false)
    → (0 < offset → is_hyphen (get_or text (offset - 1) 0) ≡ true) → suffix_len (λ b. not (is_hyphen b)) text ≡ length text - offset
behind text offset within none there = suffix_len_is (λ b. not (is_hyphen b)) text offset 0 within (λ k le lt. ap not (none k le lt)) (λ some. ap not (there some))

-- ---- a list of regions

-- regions before those of a list
abbrev pub onto : List Region → Result (List Region) Text → Result (List Region) Text
onto front (Ok regions) = Ok (front ++ regions)
onto front (Err piece) = Err piece

pub onto_none : (r : Result (List Region) Text) → r ≡ onto [] r
onto_none (Ok regions) = refl
onto_none (Err piece) = refl

onto_one : (front : List Region) (region : Region) (r : Result (List Region) Text) → onto front (with_region region r) ≡ onto (front ++ region ∷ []) r
onto_one front region (Ok regions) = ap (λ (rs : List Region). let r : Result (List Region) Text = Ok rs in r) (sym (append_assoc front (region ∷ []) regions))
onto_one front region (Err piece) = refl

-- one piece more
pub one_named : (lines : List Line) (whole : Result (List Region) Text) (front new : List Region) (list piece : Text) (rest : Option Text) (region : Region) → whole ≡ onto front (regions_of_pieces lines (pieces list)) → pieces list ≡ piece ∷ pieces_left rest → region_named lines piece ≡ Some region → new ≡ front ++ region ∷ []
    → whole ≡ onto new (regions_of_pieces lines (pieces_left rest))
one_named lines whole front new list piece rest region before cut named made =
    before
    ∙ ap (λ ps. onto front (regions_of_pieces lines ps)) cut
    ∙ ap (λ (o : Option Region). onto front (elim o [ Some r ↦ with_region r (regions_of_pieces lines (pieces_left rest)) | None ↦ Err piece ])) named
    ∙ onto_one front region (regions_of_pieces lines (pieces_left rest))
    ∙ ap (λ (rs : List Region). onto rs (regions_of_pieces lines (pieces_left rest))) (sym made)

pub one_missing : (lines : List Line) (whole : Result (List Region) Text) (front : List Region) (list piece : Text) (rest : Option Text) → whole ≡ onto front (regions_of_pieces lines (pieces list)) → pieces list ≡ piece ∷ pieces_left rest → region_named lines piece ≡ None → whole ≡ Err piece
one_missing lines whole front list piece rest before cut named =
    before
    ∙ ap (λ ps. onto front (regions_of_pieces lines ps)) cut
    ∙ ap (λ (o : Option Region). onto front (elim o [ Some r ↦ with_region r (regions_of_pieces lines (pieces_left rest)) | None ↦ Err piece ])) named

-- ---- the number of a line

number_above : (most : ℕ) (text : Text) → is_some (number_in 1 most text) ≡ true → 0 < digits_value 10 text
number_above most text e = by (is_number text && nat_le 1 (digits_value 10 text) && nat_le (digits_value 10 text) most) refl e
  where
    by : (b : Bool) → (is_number text && nat_le 1 (digits_value 10 text) && nat_le (digits_value 10 text) most) ≡ b → is_some (if b then Some (digits_value 10 text) else None) ≡ true → 0 < digits_value 10 text
    by false t is = absurd cc
    by true t is =
        let parts = both_true (is_number text && nat_le 1 (digits_value 10 text)) (nat_le (digits_value 10 text) most) t in
        leb-true 1 (digits_value 10 text) (both_true (is_number text) (nat_le 1 (digits_value 10 text)) parts.0).1

pub line_above : (text : Text) (parts : Text × ℕ) → is_line text ≡ true → parts ≡ line_parts text → 0 < parts.1
unfolding is_line line_parts
line_above text parts line is =
    subst (λ (p : Text × ℕ). 0 < p.1) (sym is)
    (number_above 4294967295 (after_last is_colon text) (both_true (is_path (before_last is_colon text)) (is_some (number_in 1 4294967295 (after_last is_colon text))) line).1)
