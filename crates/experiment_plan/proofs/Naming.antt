-- The lines of a list's pieces, one after the other, and where the first missing piece stands.
use Rattle.std.proofs.Common.{◌≡◌, ℕ, suc, ◌+◌, ◌<◌, inl, inr, Bool, true, false, not, ◌&&◌, List, [], ◌∷◌, ◌++◌, length, take, cond, Option, Some, None, Result, Ok, Err, All, refl, sym, ap, ◌∙◌, subst, arith, length-append}
use Rattle.std.specs.List.{list_all, cons_option, filter_map, find, position, prefix_len, sum_by}
use Rattle.std.specs.Option.{is_none}
use Rattle.std.proofs.lemmas.List.{append_assoc}
use Rattle.std.proofs.lemmas.List.Sums.{sum_by-cons}
use Rattle.std.proofs.lemmas.List.Quantifiers.{position-Some}
use Rattle.coz_types.specs.declared.LineId.{LineId}
use Rattle.line_index.specs.Changes.{or_else}
use Rattle.line_index.specs.Lines.{Line, is_line_named as is_whole, is_line_below, position_named}
use Rattle.line_index.proofs.Pieces.{Among, among_map}
use Rattle.experiment_plan.specs.Lists.{Text, is_line, line_parts, pieces, pieces_left, IsCut}
use Rattle.experiment_plan.specs.Selected.{id_of, ids, line_found, is_missing, rising_numbers, selected, bytes_before}
use Rattle.experiment_plan.proofs.Among.{all_among}
use Rattle.experiment_plan.proofs.Rising.{of_rising}

others : (one rest : Bool) → (one && rest) ≡ true → rest ≡ true
others true rest both = both
others false rest both = let no : false ≡ true = both in absurd cc

-- what is left of a list stands after some bytes, which the pieces in front of it take
abbrev pub Stands : List Line → Text → Option Text → Type 0
Stands lines text None = Unit {0}
Stands lines text (Some list) = (front : Text) × (text ≡ front ++ list) × (length front + bytes_before lines (pieces list) ≡ bytes_before lines (pieces text))

-- the lines that are found so far, with those of the pieces that are left, are those of all pieces
abbrev pub Continues : List Line → Text → List ℕ → Option Text → Type 0
Continues lines text put left =
    (list_all is_line (pieces_left left) ≡ true)
    × (find (is_missing lines) (pieces_left left) ≡ find (is_missing lines) (pieces text))
    × (put ++ filter_map (line_found lines) (pieces_left left) ≡ filter_map (line_found lines) (pieces text))
    × Stands lines text left

pub starts : (lines : List Line) (text : Text) → list_all is_line (pieces text) ≡ true → Continues lines text [] (Some text)
starts lines text e = (e, refl, refl, ([], refl, omega arith))

-- ---- the next piece

before_found : (lines : List Line) (piece : Text) (left : List Text) (n : ℕ) → line_found lines piece ≡ Some n → bytes_before lines (piece ∷ left) ≡ length piece + 1 + bytes_before lines left
before_found lines piece left n there =
    let k = prefix_len (λ p. not (is_missing lines p)) left in
    let on : 1 + k ≡ suc k = omega arith in
    ap (λ o. sum_by (λ (p : Text). length p + 1) (take (cond (not (is_none o)) (1 + k) 0) (piece ∷ left))) there
    ∙ ap (λ j. sum_by (λ (p : Text). length p + 1) (take j (piece ∷ left))) on
    ∙ sum_by-cons (λ (p : Text). length p + 1) piece (take k left)

stands_with : (lines : List Line) (text list piece : Text) (rest : Option Text) (n : ℕ) → line_found lines piece ≡ Some n → pieces list ≡ piece ∷ pieces_left rest → IsCut list piece rest → Stands lines text (Some list) → Stands lines text rest
stands_with lines text list piece None n there cut is stands = tt
stands_with lines text list piece (Some rest) n there cut is stands =
    let front = stands.0 in
    let behind : Text = front ++ (piece ++ 44 ∷ []) in
    let same : text ≡ behind ++ rest =
    stands.1 ∙ ap (λ (t : Text). front ++ t) (is ∙ sym (append_assoc piece (44 ∷ []) rest)) ∙ sym (append_assoc front (piece ++ 44 ∷ []) rest) in
    let size : length behind ≡ length front + (length piece + 1) = length-append front (piece ++ 44 ∷ []) ∙ ap (λ k. length front + k) (length-append piece (44 ∷ [])) in
    let more : bytes_before lines (pieces list) ≡ length piece + 1 + bytes_before lines (pieces rest) = ap (bytes_before lines) cut ∙ before_found lines piece (pieces rest) n there in
    (behind, same, omega (arith, size, more, stands.2))

-- the line of the next piece is put after them
pub continues_with : (lines : List Line) (text list piece : Text) (rest : Option Text) (put new : List ℕ) (n : ℕ) → line_found lines piece ≡ Some n → new ≡ put ++ n ∷ [] → pieces list ≡ piece ∷ pieces_left rest → IsCut list piece rest
    → Continues lines text put (Some list) → Continues lines text new rest
continues_with lines text list piece rest put new n there is cut part before =
    let left = pieces_left rest in
    let missing = find (is_missing lines) left in
    let named = filter_map (line_found lines) left in (
      others (is_line piece) (list_all is_line left) (subst (λ ps. list_all is_line ps ≡ true) cut before.0),
      sym (ap (λ o. cond (is_none o) (Some piece) missing) there) ∙ sym (ap (find (is_missing lines)) cut) ∙ before.1,
      ap (λ ns. ns ++ named) is ∙ append_assoc put (n ∷ []) named ∙ sym (ap (λ o. put ++ cons_option o named) there) ∙ sym (ap (λ ps. put ++ filter_map (line_found lines) ps) cut) ∙ before.2,
      stands_with lines text list piece rest n there cut part before.3,
    )

-- ---- a piece that is missing

-- ---- all pieces are found

pub all_selected : (lines : List Line) (text : Text) (named new : List ℕ) → find (is_missing lines) (pieces text) ≡ None → named ≡ filter_map (line_found lines) (pieces text) → new ≡ rising_numbers named → selected lines text ≡ Ok new
all_selected lines text named new none is sorted =
    let of : Option Text → Result (List ℕ) Text = λ o. elim o [ Some p ↦ Err p | None ↦ Ok (rising_numbers (filter_map (line_found lines) (pieces text))) ] in
    ap of none ∙ ap (λ ns. Ok (rising_numbers ns)) (sym is) ∙ ap (λ (ns : List ℕ). Ok ns) (sym sorted)

-- ---- a line that is found is one of the lines

either_below : (m : ℕ) (first second : Option ℕ) (k : ℕ) → ((j : ℕ) → first ≡ Some j → j < m) → ((j : ℕ) → second ≡ Some j → j < m) → or_else first second ≡ Some k → k < m
either_below m None second k one two is = two k is
either_below m (Some n) second k one two is = one k is

pub found_below : (text : List ℕ) (number : ℕ) (lines : List Line) (k : ℕ) → position_named text number lines ≡ Some k → k < length lines
found_below text number lines k is =
    let some : Line = record { path = []; number = 0 } in
    let whole = is_whole text number in
    let below = is_line_below text number in
    either_below (length lines) (position whole lines) (position below lines) k (λ j e. (position-Some whole lines j some e).0) (λ j e. (position-Some below lines j some e).0) is

named_below : (lines : List Line) (texts : List Text) (n : ℕ) → Among n (filter_map (line_found lines) texts) → n < length lines
named_below lines [] n m = absurd m
named_below lines (text ∷ texts) n m = by (line_found lines text) refl (named_below lines texts n) m
  where
    by : (o : Option ℕ) → line_found lines text ≡ o → (Among n (filter_map (line_found lines) texts) → n < length lines) → Among n (cons_option o (filter_map (line_found lines) texts)) → n < length lines
    by None is rest h = rest h
    by (Some k) is rest (inl e) = subst (λ j. j < length lines) e (found_below (line_parts text).0 (line_parts text).1 lines k is)
    by (Some k) is rest (inr h) = rest h

pub all_below : (lines : List Line) (text : Text) (named new : List LineId) → ids named ≡ filter_map (line_found lines) (pieces text) → ids new ≡ rising_numbers (ids named) → All (λ (line : LineId). line.0 < length lines) new
all_below lines text named new is sorted =
    all_among (λ (line : LineId). line.0 < length lines) new
    (λ line m.
    let risen : Among line.0 (rising_numbers (ids named)) = subst (Among line.0) sorted (among_map id_of line new m) in
    named_below lines (pieces text) line.0 (subst (Among line.0) is (of_rising line.0 (ids named) risen)))
