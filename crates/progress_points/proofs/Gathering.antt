-- The first mark of an address, if marks are gathered line by line.
use Rattle.std.proofs.Common.{◌≡◌, ℕ, ◌+◌, ◌<◌, Bool, true, false, ◌||◌, ◌==◌, cond, List, [], ◌∷◌, ◌++◌, length, take, get_or, Option, Some, None, option_map, slice_get, refl, sym, ap, ◌∙◌, arith}
use Rattle.std.specs.List.{list_any, find, position_from}
use Rattle.std.specs.Option.{option_or}
use Rattle.std.proofs.lemmas.List.{map-append, take_more, length-map, length-take}
use Rattle.std.proofs.lemmas.List.Folds.{find-append}
use Rattle.std.proofs.lemmas.Iterator.Adapters.{position_from-zero}
use Rattle.std.proofs.lemmas.Option.{get_or_from_slice_get}
use Rattle.coz_types.specs.declared.LineId.{LineId}
use Rattle.progress_points.specs.Points.{Mark, marks_at, is_at, first_point, has_entry, point_in, ids}

-- the point, if a test says that an address has it
abbrev pub point_if : Bool → ℕ → Option ℕ
point_if has point = cond has (Some point) None

here : (b has : Bool) (mark : Mark) (rest : Option Mark) → option_map (λ (m : Mark). m.point) rest ≡ point_if has mark.point
    → option_map (λ (m : Mark). m.point) (cond b (Some mark) rest) ≡ point_if (b || has) mark.point
here true has mark rest e = refl
here false has mark rest e = e

found_here : (a point : ℕ) (addresses : List ℕ) → first_point a (marks_at point addresses) ≡ point_if (list_any (λ (entry : ℕ). entry == a) addresses) point
found_here a point [] = refl
found_here a point (e ∷ es) = here (e == a) (list_any (λ (entry : ℕ). entry == a) es) (record { address = e; point = point }) (find (is_at a) (marks_at point es)) (found_here a point es)

mapped_or : {X Y : Type 0} (f : X → Y) (first second : Option X) → option_map f (option_or first second) ≡ option_or (option_map f first) (option_map f second)
mapped_or f None second = refl
mapped_or f (Some x) second = refl

-- the first of two lists of marks comes first
pub first_of_both : (a : ℕ) (front back : List Mark) → first_point a (front ++ back) ≡ option_or (first_point a front) (first_point a back)
first_of_both a front back = ap (option_map (λ (m : Mark). m.point)) (find-append (is_at a) front back) ∙ mapped_or (λ (m : Mark). m.point) (find (is_at a) front) (find (is_at a) back)

kept_or : (b : Bool) (i : ℕ) (rest last : Option ℕ) → cond b (Some i) (option_or rest last) ≡ option_or (cond b (Some i) rest) last
kept_or true i rest last = refl
kept_or false i rest last = refl

position_from_more : (test : ℕ → Bool) (i : ℕ) (xs : List ℕ) (y : ℕ) → position_from test i (xs ++ y ∷ []) ≡ option_or (position_from test i xs) (point_if (test y) (i + length xs))
position_from_more test i [] y = ap (point_if (test y)) (omega arith)
position_from_more test i (x ∷ xs) y =
    ap (cond (test x) (Some i)) (position_from_more test (i + 1) xs y ∙ ap (λ n. option_or (position_from test (i + 1) xs) (point_if (test y) n)) (omega arith))
    ∙ kept_or (test x) i (position_from test (i + 1) xs) (point_if (test y) (i + length (x ∷ xs)))

position_more : (by_line : List (List ℕ)) (a : ℕ) (lines : List ℕ) (line : ℕ) → point_in by_line (lines ++ line ∷ []) a ≡ option_or (point_in by_line lines a) (point_if (has_entry by_line a line) (length lines))
position_more by_line a lines line =
    let test = has_entry by_line a in
    position_from-zero test (lines ++ line ∷ []) ∙ position_from_more test 0 lines line ∙ ap (λ n. option_or (position_from test 0 lines) (point_if (test line) n)) (omega arith) ∙ ap (λ p. option_or p (point_if (test line) (length lines))) (sym (position_from-zero test lines))

ids_more : (lines : List LineId) (k : ℕ) (line : LineId) → k < length lines → ids (take (k + 1) lines) ≡ ids (take k lines) ++ (get_or lines k line).0 ∷ []
ids_more lines k line lt = ap ids (take_more lines k line lt) ∙ map-append (λ (l : LineId). l.0) (take k lines) (get_or lines k line ∷ [])

many : (lines : List LineId) (k : ℕ) → k < length lines → length (ids (take k lines)) ≡ k
many lines k lt = let e = length-map (take k lines) (λ (l : LineId). l.0) in let f = length-take k lines in omega (arith, e, f)

-- the marks of one more line
pub gathered : (by_line : List (List ℕ)) (lines : List LineId) (k : ℕ) (line : LineId) (entries : List ℕ) (marks more : List Mark) → k < length lines
    → slice_get by_line (get_or lines k line).0 ≡ Some entries → more ≡ marks ++ marks_at k entries
    → ((a : ℕ) → first_point a marks ≡ point_in by_line (ids (take k lines)) a) → (a : ℕ) → first_point a more ≡ point_in by_line (ids (take (k + 1) lines)) a
gathered by_line lines k line entries marks more lt has grows so_far a =
    let id : ℕ = (get_or lines k line).0 in
    let same : entries ≡ get_or by_line id [] = sym (get_or_from_slice_get by_line id entries [] has) in
    let own : first_point a (marks_at k entries) ≡ point_if (has_entry by_line a id) (length (ids (take k lines)))
    = found_here a k entries ∙ ap (λ (es : List ℕ). point_if (list_any (λ (entry : ℕ). entry == a) es) k) same ∙ ap (point_if (has_entry by_line a id)) (sym (many lines k lt)) in
    ap (first_point a) grows ∙ first_of_both a marks (marks_at k entries) ∙ ap (λ p. option_or p (first_point a (marks_at k entries))) (so_far a) ∙ ap (option_or (point_in by_line (ids (take k lines)) a)) own
    ∙ sym (position_more by_line a (ids (take k lines)) id)
    ∙ ap (λ ls. point_in by_line ls a) (sym (ids_more lines k line lt))
