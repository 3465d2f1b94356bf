-- The first span that holds an address is that of the first row that covers it.
use Rattle.std.proofs.Common.{◌≡◌, ℕ, suc, ◌+◌, ◌≤◌, Bool, true, false, ◌&&◌, ◌||◌, List, [], ◌∷◌, ◌++◌, length, drop, reverse, map, Option, Some, None, nat_lt, nat_le, cond, unwrap_or, option_map, option_and_then, slice_get, refl, sym, ap, ◌∙◌, subst, arith, filter}
use Rattle.std.specs.List.{position_from}
use Rattle.std.proofs.lemmas.Bool.Decides.{nat_tests}
use Rattle.std.proofs.lemmas.List.{length-reverse}
use Rattle.coz_types.specs.declared.image.Area.{Area}
use Rattle.dwarf_lines.specs.declared.Row.{Row}
use Rattle.line_index.specs.declared.spans.Span.{Span}
use Rattle.line_index.specs.Changes.{is_in_span, or_else}
use Rattle.line_index.specs.Lines.{next_address, is_covered, first_covering, is_executable}
use Rattle.line_index.specs.Spans.{row_span, row_spans, area_span, code_spans}

step_append : (t : Bool) (n : ℕ) (x y : Option ℕ) → cond t (Some n) (or_else x y) ≡ or_else (cond t (Some n) x) y
step_append true n x y = refl
step_append false n x y = refl

-- the first of some spans and others after them
pub position_from-append : {X : Type 0} (p : X → Bool) (n : ℕ) (xs ys : List X) → position_from p n (xs ++ ys) ≡ or_else (position_from p n xs) (position_from p (n + length xs) ys)
position_from-append p n [] ys = let e : n + 0 ≡ n = omega arith in rw e refl
position_from-append p n (x ∷ xs) ys =
    let e : n + 1 + length xs ≡ n + length (x ∷ xs) = omega arith in
    let more = position_from-append p (n + 1) xs ys in
    let moved = subst (λ k. position_from p (n + 1) (xs ++ ys) ≡ or_else (position_from p (n + 1) xs) (position_from p k ys)) e more in
    ap (λ z. cond (p x) (Some n) z) moved ∙ step_append (p x) n (position_from p (n + 1) xs) (position_from p (n + length (x ∷ xs)) ys)

step_shift : (t : Bool) (n : ℕ) (x : Option ℕ) → cond t (Some (n + 1)) (option_map (λ k. suc k) x) ≡ option_map (λ k. suc k) (cond t (Some n) x)
step_shift true n x = let e : n + 1 ≡ suc n = omega arith in ap (λ k. Some k) e
step_shift false n x = refl

-- counted from one more
position_from-shift : {X : Type 0} (p : X → Bool) (n : ℕ) (xs : List X) → position_from p (n + 1) xs ≡ option_map (λ k. suc k) (position_from p n xs)
position_from-shift p n [] = refl
position_from-shift p n (x ∷ xs) = ap (λ z. cond (p x) (Some (n + 1)) z) (position_from-shift p (n + 1) xs) ∙ step_shift (p x) n (position_from p (n + 1) xs)

-- ---- rows

empty_by : (s a : ℕ) (x y : Bool) → nat_le s a ≡ x → nat_lt a s ≡ y → false ≡ (x && y)
empty_by s a false y e f = refl
empty_by s a true false e f = refl
empty_by s a true true e f = let no : ⊥ = grind (arith, nat_tests) in absurd no

empty_span : (s a : ℕ) → false ≡ (nat_le s a && nat_lt a s)
empty_span s a = empty_by s a (nat_le s a) (nat_lt a s) refl refl

covers_span : (a s : ℕ) (next : Option ℕ) → (elim next as (λ n. Bool) [ Some end ↦ nat_le s a && nat_lt a end | None ↦ false ]) ≡ (nat_le s a && nat_lt a (unwrap_or next s))
covers_span a s None = empty_span s a
covers_span a s (Some end) = refl

pub is_covered-span : (a : ℕ) (row : Row) (later : List Row) → is_covered a row later ≡ is_in_span a (row_span row later)
is_covered-span a row later = covers_span a row.address (next_address row.sequence later)

get_later : (row : Row) (rows : List Row) (x : Option ℕ) → option_and_then (slice_get (row ∷ rows)) (option_map (λ k. suc k) x) ≡ option_and_then (slice_get rows) x
get_later row rows None = refl
get_later row rows (Some k) = refl

covering_step : (t : Bool) (row : Row) (rows : List Row) (x : Option ℕ) → option_and_then (slice_get (row ∷ rows)) (cond t (Some 0) (option_map (λ k. suc k) x)) ≡ cond t (Some row) (option_and_then (slice_get rows) x)
covering_step true row rows x = refl
covering_step false row rows x = get_later row rows x

pub covering : (a : ℕ) (rows : List Row) → option_and_then (slice_get rows) (position_from (is_in_span a) 0 (row_spans rows)) ≡ first_covering a rows
covering a [] = refl
covering a (row ∷ rows) =
    ap (λ z. option_and_then (slice_get (row ∷ rows)) (cond (is_in_span a (row_span row rows)) (Some 0) z)) (position_from-shift (is_in_span a) 0 (row_spans rows))
    ∙ covering_step (is_in_span a (row_span row rows)) row rows (position_from (is_in_span a) 0 (row_spans rows))
    ∙ ap (λ z. cond (is_in_span a (row_span row rows)) (Some row) z) (covering a rows)
    ∙ ap (λ t. cond t (Some row) (first_covering a rows)) (sym (is_covered-span a row rows))

-- ---- areas

within_step : (t : Bool) (n : ℕ) (x y : Option ℕ) (b : Bool) → option_and_then (λ (_ : ℕ). y) x ≡ cond b y None → option_and_then (λ (_ : ℕ). y) (cond t (Some n) x) ≡ cond (t || b) y None
within_step true n x y b e = refl
within_step false n x y b e = e

within_area : (w : Bool) (a n : ℕ) (area : Area) (areas : List Area) (y : Option ℕ) → area.rights.execute ≡ w
    → ((m : ℕ) → option_and_then (λ (_ : ℕ). y) (position_from (is_in_span a) m (code_spans areas)) ≡ cond (is_executable areas a) y None)
    → option_and_then (λ (_ : ℕ). y) (position_from (is_in_span a) n (map area_span (cond w (area ∷ filter (λ (area : Area). area.rights.execute) areas) (filter (λ (area : Area). area.rights.execute) areas)))) ≡ cond ((w && (nat_le area.start a && nat_lt a (area.start + area.size))) || is_executable areas a) y None
within_area true a n area areas y e rest = within_step (is_in_span a (area_span area)) n (position_from (is_in_span a) (n + 1) (code_spans areas)) y (is_executable areas a) (rest (n + 1))
within_area false a n area areas y e rest = rest n

pub within : (areas : List Area) (a n : ℕ) (y : Option ℕ) → option_and_then (λ (_ : ℕ). y) (position_from (is_in_span a) n (code_spans areas)) ≡ cond (is_executable areas a) y None
within [] a n y = refl
within (area ∷ areas) a n y = within_area area.rights.execute a n area areas y refl (λ m. within areas a m y)

-- the first of some spans is that of their front part, and if that has none of the part after
pub halves : {X : Type 0} (p : X → Bool) (n m : ℕ) (xs : List X) (front back : List X) (x y : Option ℕ) → front ++ back ≡ xs → length front ≡ m → x ≡ position_from p n front → y ≡ position_from p (n + m) back → or_else x y ≡ position_from p n xs
halves p n m xs front back x y whole long e f =
    let moved : y ≡ position_from p (n + length front) back = f ∙ ap (λ k. position_from p (n + k) back) (sym long) in
    ap (λ z. or_else z y) e ∙ ap (λ z. or_else (position_from p n front) z) moved ∙ sym (position_from-append p n front back) ∙ ap (position_from p n) whole

-- there is a span for each row
pub length-row_spans : (rows : List Row) → length (row_spans rows) ≡ length rows
length-row_spans [] = refl
length-row_spans (row ∷ rows) = ap (λ n. suc n) (length-row_spans rows)

-- the first covering row, within the executable areas
pub within_code : (areas : List Area) (rows : List Row) (a : ℕ) (code spans : List Span) (x y : Option ℕ) → code ≡ code_spans areas → spans ≡ row_spans rows → x ≡ position_from (is_in_span a) 0 code → y ≡ position_from (is_in_span a) 0 spans
    → option_and_then (λ (_ : ℕ). y) x ≡ cond (is_executable areas a) (position_from (is_in_span a) 0 (row_spans rows)) None
within_code areas rows a code spans x y is are e f =
    ap (λ z. option_and_then (λ (_ : ℕ). y) z) (e ∙ ap (position_from (is_in_span a) 0) is)
    ∙ within areas a 0 y
    ∙ ap (λ z. cond (is_executable areas a) z None) (f ∙ ap (position_from (is_in_span a) 0) are)

-- the spans that were made from the last row on
pub reversed_many : (rows : List Row) (i : ℕ) (spans turned : List Span) → i ≤ 0 → spans ≡ reverse (row_spans (drop i rows)) → turned ≡ reverse spans → length turned ≡ length rows
reversed_many rows i spans turned le is turn =
    let none : i ≡ 0 = omega arith in
    ap length (turn ∙ ap reverse is) ∙ length-reverse (reverse (row_spans (drop i rows))) ∙ length-reverse (row_spans (drop i rows)) ∙ length-row_spans (drop i rows) ∙ ap (λ j. length (drop j rows)) none
