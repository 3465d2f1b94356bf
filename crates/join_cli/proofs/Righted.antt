-- The lines of a line table, of bytes and numbers of 32 bits, have right labels and stand in order.
use Rattle.std.proofs.Common.{◌≡◌, ℕ, zero, suc, ◌<◌, ◌^◌, Bool, true, false, ◌||◌, ◌==◌, cond, List, [], ◌∷◌, ◌++◌, All, Option, Some, None, option_map, option_and_then, slice_get, IfSome, refl, subst, arith}
use Rattle.std.specs.List.{AllByRecursion, filter_map, cons_option}
use Rattle.std.specs.Cmp.{IsTotalOrder}
use Rattle.std.specs.List.Sorted.{IsStrictlySortedBy}
use Rattle.std.specs.declared.cmp.Ordering.{Ordering}
use Rattle.std.specs.declared.cmp.Ordering.TheVariants.{Less, Equal, Greater}
use Rattle.std.specs.FinMap.Entries.{by_order}
use Rattle.std.proofs.lemmas.Bool.Decides.{nat_tests}
use Rattle.std.proofs.lemmas.Cmp.{nat_cmp_total, nat_list_cmp_total, on_total, then_total}
use Rattle.std.proofs.lemmas.List.Elements.{All-from_recursion}
use Rattle.coz_types.specs.Labels.{is_empty, is_written}
use Rattle.coz_types.specs.declared.image.Area.{Area}
use Rattle.coz_types.proofs.WrittenPaths.{written_is}
use Rattle.dwarf_lines.specs.declared.Row.{Row}
use Rattle.dwarf_lines.specs.Registers.{File, Table}
use Rattle.line_index.specs.Lines.{Line, IsRight, is_rooted, full_name, path, entry_path, is_covered, first_covering, line_with, line_of_row, is_executable, line_of, line_cmp}
use Rattle.line_index.specs.Listed.{in_order, with_element, bounds, lines_in}
use Rattle.line_index.proofs.Ordered.{in_order_sorted}
use Rattle.join_cli.proofs.Tables.{AreBytes, HasBytes, HasLine, IsPlain, both}

line_total : IsTotalOrder line_cmp
line_total = then_total (on_total (λ (l : Line). l.path) nat_list_cmp_total) (on_total (λ (l : Line). l.number) nat_cmp_total)

-- ---- written paths

name_is_bytes : (file : File) → HasBytes file → AreBytes (full_name file)
name_is_bytes file has = by (is_empty file.directory || is_rooted file.name)
  where
    by : (t : Bool) → AreBytes (cond t file.name (file.directory ++ 47 ∷ file.name))
    by true = has.name
    by false = both (λ b. b < 256) file.directory (47 ∷ file.name) has.directory (omega arith, has.name)

path_is_written : (file : File) → HasBytes file → is_written (path file) ≡ true
path_is_written file has = written_is (full_name file) (name_is_bytes file has)

-- ---- the line of a row

entry_right : (t : Bool) (text : List ℕ) (number : ℕ) (l : Line) → is_empty text ≡ t → is_written text ≡ true → 0 < number → number < 2 ^ 32 → option_map (line_with number) (cond t None (Some text)) ≡ Some l → IsRight l
entry_right true text number l empty written positive small e = absurd (let no : ⊥ = cc in no)
entry_right false text number l empty written positive small e =
    let same : line_with number text ≡ l = cc in
    subst IsRight same (record { named = empty; written = written; positive = positive; small = small })

file_right : (number : ℕ) (files : List File) (k : ℕ) (l : Line) → AllByRecursion HasBytes files → 0 < number → number < 2 ^ 32 → option_and_then (λ file. option_map (line_with number) (entry_path file)) (slice_get files k) ≡ Some l → IsRight l
file_right number [] k l all positive small e = absurd (let no : ⊥ = cc in no)
file_right number (file ∷ files) zero l all positive small e = entry_right (is_empty (path file)) (path file) number l refl (path_is_written file all.0) positive small e
file_right number (file ∷ files) (suc k) l all positive small e = file_right number files k l all.1 positive small e

row_right : (files : List File) (number : ℕ) (t : Bool) (file : Option ℕ) (l : Line) → (number == 0) ≡ t → AllByRecursion HasBytes files → number < 2 ^ 32
    → cond t None (option_and_then (λ k. option_and_then (λ file. option_map (line_with number) (entry_path file)) (slice_get files k)) file) ≡ Some l → IsRight l
row_right files number true file l zero_is all small e = absurd (let no : ⊥ = cc in no)
row_right files number false None l zero_is all small e = absurd (let no : ⊥ = cc in no)
row_right files number false (Some k) l zero_is all small e = file_right number files k l all (grind (arith, nat_tests, zero_is)) small e

-- ---- the line of an address

covering_right : (a : ℕ) (rows : List Row) → AllByRecursion HasLine rows → IfSome (first_covering a rows) HasLine
covering_right a [] all = tt
covering_right a (row ∷ rows) all = by (is_covered a row rows) (covering_right a rows all.1)
  where
    by : (t : Bool) → IfSome (first_covering a rows) HasLine → IfSome (cond t (Some row) (first_covering a rows)) HasLine
    by true more = all.0
    by false more = more

covered_right : (files : List File) (row : Option Row) (l : Line) → AllByRecursion HasBytes files → IfSome row HasLine → option_and_then (line_of_row files) row ≡ Some l → IsRight l
covered_right files None l all small e = absurd (let no : ⊥ = cc in no)
covered_right files (Some row) l all small e = row_right files row.line (row.line == 0) row.file l refl all small e

within_right : (files : List File) (t : Bool) (row : Option Row) (l : Line) → AllByRecursion HasBytes files → IfSome row HasLine → cond t (option_and_then (line_of_row files) row) None ≡ Some l → IsRight l
within_right files true row l all small e = covered_right files row l all small e
within_right files false row l all small e = absurd (let no : ⊥ = cc in no)

line_right : (table : Table) (areas : List Area) (a : ℕ) (l : Line) → IsPlain table → line_of table areas a ≡ Some l → IsRight l
unfolding line_of
line_right table areas a l plain e = within_right table.files (is_executable areas a) (first_covering a table.rows) l plain.files (covering_right a table.rows plain.rows) e

-- ---- all lines

found_right : (table : Table) (areas : List Area) → IsPlain table → (addresses : List ℕ) → AllByRecursion IsRight (filter_map (line_of table areas) addresses)
found_right table areas plain [] = tt
found_right table areas plain (a ∷ addresses) = by (line_of table areas a) refl (found_right table areas plain addresses)
  where
    by : (o : Option Line) → line_of table areas a ≡ o → AllByRecursion IsRight (filter_map (line_of table areas) addresses) → AllByRecursion IsRight (cons_option o (filter_map (line_of table areas) addresses))
    by None e more = more
    by (Some l) e more = (line_right table areas a l plain e, more)

with_right : (x : Line) (ys : List Line) → IsRight x → AllByRecursion IsRight ys → AllByRecursion IsRight (with_element line_cmp x ys)
with_right x [] one all = (one, tt)
with_right x (y ∷ ys) one all = by (line_cmp x y) (with_right x ys one all.1)
  where
    by : (o : Ordering) → AllByRecursion IsRight (with_element line_cmp x ys) → AllByRecursion IsRight (by_order o (x ∷ y ∷ ys) (y ∷ ys) (y ∷ with_element line_cmp x ys))
    by Less more = (one, all)
    by Equal more = all
    by Greater more = (all.0, more)

ordered_right : (xs : List Line) → AllByRecursion IsRight xs → AllByRecursion IsRight (in_order line_cmp xs)
ordered_right [] all = tt
ordered_right (x ∷ xs) all = with_right x (in_order line_cmp xs) all.0 (ordered_right xs all.1)

-- the lines stand in order, and each has a right label
pub lines_rise : (table : Table) (areas : List Area) → IsStrictlySortedBy line_cmp (lines_in table areas)
unfolding lines_in
lines_rise table areas = in_order_sorted line_total (filter_map (line_of table areas) (bounds table areas))

pub lines_right : (table : Table) (areas : List Area) → IsPlain table → All IsRight (lines_in table areas)
unfolding lines_in
lines_right table areas plain =
    All-from_recursion IsRight (lines_in table areas)
    (ordered_right (filter_map (line_of table areas) (bounds table areas)) (found_right table areas plain (bounds table areas)))
