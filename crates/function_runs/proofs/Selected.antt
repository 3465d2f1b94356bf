-- The addresses that the run of a file selects: those with the selected line by function.
use Rattle.std.proofs.Common.{◌≡◌, ℕ, ◌+◌, ◌==◌, Bool, true, false, ◌&&◌, ◌||◌, List, [], ◌∷◌, slice_get, Option, Some, None, option_map, refl, sym, ap, ap₂, ◌∙◌, if◌then◌else◌, eqb-true, eq-eqb, nat_le, nat_lt}
use Rattle.std.specs.Prelude.{bytes_eq, option_and_then}
use Rattle.std.proofs.lemmas.Bool.{and_parts, and_from}
use Rattle.std.proofs.lemmas.Slice.Eq.{bytes_eq-Decides}
use Rattle.coz_types.specs.Image.{ImageParts}
use Rattle.coz_types.specs.declared.image.Area.{Area}
use Rattle.dwarf_lines.specs.Registers.{Table}
use Rattle.line_index.specs.Index.{Index, IsIndex, has_line, position_at}
use Rattle.line_index.specs.Keys.{is_at}
use Rattle.line_index.specs.Lines.{Line, first_covering, is_executable, is_line_named, line_of, line_of_row}
use Rattle.line_index.specs.Listed.{is_same}
use Rattle.line_index.proofs.Order.{one_place}
use Rattle.line_remap.specs.Marks.{Mark}
use Rattle.function_lines.specs.ByFunction.{IsByFunction, ReadsAs, line_by_function}
use Rattle.function_lines.specs.SameProgram.{are_same_areas, is_same_area}
use Rattle.function_runs.specs.Runs.{has_by_function}
use Rattle.function_runs.proofs.First.{AreAlike, IsSameImage, alike}

-- ---- executable addresses

same_here : (file other : List ℕ) (a b : Area) (address : ℕ) → AreAlike file other a b → (b.rights.execute && (nat_le b.start address && nat_lt address (b.start + b.size))) ≡ (a.rights.execute && (nat_le a.start address && nat_lt address (a.start + a.size)))
same_here file other a b address is =
    let rights = is.rights in
    let start = is.start in
    let size = is.size in
    sym (λ i. (rights i).execute && (nat_le (start i) address && nat_lt address (start i + size i)))

same_executable : (file other : List ℕ) (xs bs : List Area) (address : ℕ) → are_same_areas file other xs bs ≡ true → is_executable bs address ≡ is_executable xs address
same_executable file other [] [] address e = refl
same_executable file other [] (b ∷ bs) address e = absurd cc
same_executable file other (a ∷ xs) [] address e = absurd cc
same_executable file other (a ∷ xs) (b ∷ bs) address e =
    let parts = and_parts (is_same_area file other a b) (are_same_areas file other xs bs) e in
    ap₂ (λ (s t : Bool). s || t) (same_here file other a b address (alike file other a b parts.0)) (same_executable file other xs bs address parts.1)

same_line_of : (image parts : ImageParts) → IsSameImage image parts → (table : Table) (address : ℕ) → line_of table parts.areas address ≡ line_of table image.areas address
unfolding line_of
same_line_of image parts same table address =
    ap (λ (t : Bool). if t then option_and_then (line_of_row table.files) (first_covering address table.rows) else None) (same_executable image.file parts.file image.areas parts.areas address same.areas)

-- ---- the selected line

test_one : (s t : Bool) → (s ≡ true → t ≡ true) → (t ≡ true → s ≡ true) → s ≡ t
test_one true true to from = refl
test_one true false to from = sym (to refl)
test_one false true to from = from refl
test_one false false to from = refl

named_one : (l m : Line) → is_line_named l.path l.number m ≡ true → m ≡ l
named_one l m e =
    let parts = and_parts (m.number == l.number) (bytes_eq m.path l.path) e in
    let number = eqb-true m.number l.number parts.0 in
    let path = (bytes_eq-Decides m.path l.path).0 parts.1 in
    λ i. record { path = path i; number = number i }

names_itself : (l : Line) → is_line_named l.path l.number l ≡ true
names_itself l = and_from (l.number == l.number) (bytes_eq l.path l.path) (eq-eqb l.number l.number refl) ((bytes_eq-Decides l.path l.path).1 refl)

same_some : (l : Line) (o : Option Line) → is_same l o ≡ true → o ≡ Some l
same_some l None e = absurd cc
same_some l (Some m) e = ap (λ (x : Line). Some x) (named_one l m e)

some_same : (l : Line) (o : Option Line) → o ≡ Some l → is_same l o ≡ true
some_same l o e = ap (is_same l) e ∙ names_itself l

at_some : (k : ℕ) (o : Option ℕ) → is_at k o ≡ true → o ≡ Some k
at_some k None e = absurd cc
at_some k (Some j) e = ap (λ (n : ℕ). Some n) (eqb-true j k e)

some_at : (k : ℕ) (o : Option ℕ) → o ≡ Some k → is_at k o ≡ true
some_at k o e = ap (is_at k) e ∙ eq-eqb k k refl

line_in : (x : Option Line) (o : Option Line) (l : Line) → Some x ≡ option_map Some o → x ≡ Some l → o ≡ Some l
line_in x None l e at = absurd cc
line_in x (Some m) l e at = cc

place_in : (lines : List Line) (o : Option ℕ) (l : Line) → option_map (slice_get lines) o ≡ Some (Some l) → (j : ℕ) × (o ≡ Some j) × (slice_get lines j ≡ Some l)
place_in lines None l e = absurd cc
place_in lines (Some j) l e = (j, refl, cc)

module _ (table : Table) (parts : ImageParts) (own : Index) (is : IsIndex table parts.areas own) (k : ℕ) (line : Line) (at : slice_get own.lines k ≡ Some line) where
  has_line_is : (a : ℕ) → has_line own k a ≡ is_same line (line_of table parts.areas a)
  has_line_is a = test_one (has_line own k a) (is_same line (line_of table parts.areas a)) to from
    where
      to : has_line own k a ≡ true → is_same line (line_of table parts.areas a) ≡ true
      to e = some_same line (line_of table parts.areas a) (line_in (slice_get own.lines k) (line_of table parts.areas a) line (sym (ap (option_map (slice_get own.lines)) (at_some k (position_at own a) e)) ∙ is.positions a) at)

      from : is_same line (line_of table parts.areas a) ≡ true → has_line own k a ≡ true
      from e =
          let has = same_some line (line_of table parts.areas a) e in
          let place = place_in own.lines (position_at own a) line (is.positions a ∙ ap (option_map (λ (l : Line). Some l)) has) in
          some_at k (position_at own a) (place.1 ∙ ap (λ (n : ℕ). Some n) (one_place own.lines place.0 k line is.in_order place.2 at))

by_function : (line : Line) (t : Bool) (o : Option Line) → is_same line (if t then o else None) ≡ (t && is_same line o)
by_function line true o = refl
by_function line false o = refl

-- the run of the file selects an address if it has the line by function
pub selected_is : (image parts : ImageParts) → IsSameImage image parts → (index : Index) (marks : List Mark) (written : List ℕ) → IsByFunction image index marks written
    → (table : Table) (own : Index) (line : Line) (k : ℕ) → ReadsAs written table → IsIndex table parts.areas own → slice_get own.lines k ≡ Some line
    → (a : ℕ) → has_line own k a ≡ has_by_function image index marks line a
selected_is image parts same index marks written lines table own line k reads is at a =
    has_line_is table parts own is k line at a
    ∙ ap (is_same line) (same_line_of image parts same table a ∙ lines table reads a)
    ∙ by_function line (is_executable image.areas a) (line_by_function image index marks a)
