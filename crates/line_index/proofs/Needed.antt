-- Files that no row in force names may go without a name.
use Rattle.std.proofs.Common.{◌≡◌, ◌≢◌, ℕ, suc, ◌↔◌, Bool, true, false, List, [], ◌∷◌, Option, Some, None, cond, option_map, option_and_then, slice_get, All, Contains, nat_lt, ◌==◌, refl, sym, ap, ◌∙◌, subst}
use Rattle.std.proofs.Math.Path.{fun_ext}
use Rattle.std.specs.List.{AllByRecursion, position_from}
use Rattle.std.proofs.lemmas.List.Elements.{recursion_from_All}
use Rattle.std.proofs.lemmas.Option.{slice_get-map}
use Rattle.coz_types.specs.declared.image.Area.{Area}
use Rattle.dwarf_lines.specs.declared.Row.{Row}
use Rattle.dwarf_lines.specs.declared.FileName.{FileName}
use Rattle.dwarf_lines.specs.Registers.{File, Table, file_view, files_view}
use Rattle.line_index.specs.declared.changes.Change.{Change}
use Rattle.line_index.specs.Changes.{value_at, is_in_span}
use Rattle.line_index.specs.Lines.{Line, entry_path, line_with, first_covering, line_of_row, is_executable, line_of}
use Rattle.line_index.specs.Spans.{row_spans}
use Rattle.line_index.specs.Keys.{named_file}
use Rattle.line_index.specs.Index.{Index, IsIndex}
use Rattle.line_index.proofs.Covering.{covering}

-- the row at this position names the same file
abbrev pub Names : List Row → List FileName → List FileName → Option ℕ → Type 0
Names rows named files position = option_and_then (slice_get named) (named_file rows position) ≡ option_and_then (slice_get files) (named_file rows position)

-- ---- one more name

-- ---- the line of an address

named_at : (rows : List Row) (named files : List FileName) (a : ℕ) (x : Option ℕ) (cs : List Change) → Names rows named files x → AllByRecursion (λ (c : Change). Names rows named files c.position) cs → Names rows named files (value_at a x cs)
named_at rows named files a x [] here all = here
named_at rows named files a x (c ∷ cs) here all = by (nat_lt a c.address) (named_at rows named files a c.position cs all.0 all.1)
  where
    by : (t : Bool) → Names rows named files (value_at a c.position cs) → Names rows named files (cond t x (value_at a c.position cs))
    by true rest = here
    by false rest = rest

viewed : (files : List FileName) (file : Option ℕ) → option_and_then (slice_get (files_view files)) file ≡ option_map file_view (option_and_then (slice_get files) file)
viewed files None = refl
viewed files (Some k) = slice_get-map file_view files k

row_by : (named files : List File) (number : ℕ) (zero_line : Bool) (file : Option ℕ) → option_and_then (slice_get named) (cond zero_line None file) ≡ option_and_then (slice_get files) (cond zero_line None file)
    → cond zero_line None (option_and_then (λ k. option_and_then (λ file. option_map (line_with number) (entry_path file)) (slice_get named k)) file) ≡ cond zero_line None (option_and_then (λ k. option_and_then (λ file. option_map (line_with number) (entry_path file)) (slice_get files k)) file)
row_by named files number true file e = refl
row_by named files number false None e = refl
row_by named files number false (Some k) e = ap (option_and_then (λ file. option_map (line_with number) (entry_path file))) e

same_views : (named files : List FileName) (file : Option ℕ) → option_and_then (slice_get named) file ≡ option_and_then (slice_get files) file → option_and_then (slice_get (files_view named)) file ≡ option_and_then (slice_get (files_view files)) file
same_views named files file e = viewed named file ∙ ap (option_map file_view) e ∙ sym (viewed files file)

row_at : (rows : List Row) (named files : List FileName) (row : Option Row) → option_and_then (slice_get named) (option_and_then (λ (row : Row). cond (row.line == 0) None row.file) row) ≡ option_and_then (slice_get files) (option_and_then (λ (row : Row). cond (row.line == 0) None row.file) row)
    → option_and_then (line_of_row (files_view named)) row ≡ option_and_then (line_of_row (files_view files)) row
row_at rows named files None e = refl
row_at rows named files (Some row) e = row_by (files_view named) (files_view files) row.line (row.line == 0) row.file (same_views named files (cond (row.line == 0) None row.file) e)

line_at : (rows : List Row) (named files : List FileName) (position : Option ℕ) → Names rows named files position
    → option_and_then (line_of_row (files_view named)) (option_and_then (slice_get rows) position) ≡ option_and_then (line_of_row (files_view files)) (option_and_then (slice_get rows) position)
line_at rows named files None e = refl
line_at rows named files (Some k) e = row_at rows named files (slice_get rows k) e

within_by : (rows : List Row) (named files : List FileName) (t : Bool) (position : Option ℕ) (row : Option Row) → option_and_then (slice_get rows) position ≡ row → Names rows named files (cond t position None)
    → cond t (option_and_then (line_of_row (files_view named)) row) None ≡ cond t (option_and_then (line_of_row (files_view files)) row) None
within_by rows named files true position row e names = ap (option_and_then (line_of_row (files_view named))) (sym e) ∙ line_at rows named files position names ∙ ap (option_and_then (line_of_row (files_view files))) e
within_by rows named files false position row e names = refl

pub same_line : (table : Table) (areas : List Area) (named files : List FileName) (changes : List Change) → table.files ≡ files_view files → ((a : ℕ) → value_at a None changes ≡ cond (is_executable areas a) (position_from (is_in_span a) 0 (row_spans table.rows)) None)
    → All (λ (c : Change). Names table.rows named files c.position) changes → (a : ℕ) → line_of (record table { files = files_view named }) areas a ≡ line_of table areas a
unfolding line_of
same_line table areas named files changes same values all a =
    within_by table.rows named files (is_executable areas a) (position_from (is_in_span a) 0 (row_spans table.rows)) (first_covering a table.rows) (covering a table.rows)
    (subst (Names table.rows named files) (values a) (named_at table.rows named files a None changes refl (recursion_from_All (λ (c : Change). Names table.rows named files c.position) changes all)))
    ∙ ap (λ fs. cond (is_executable areas a) (option_and_then (line_of_row fs) (first_covering a table.rows)) None) (sym same)

-- ---- the index

-- an index tells only of the lines of addresses
pub same_index : (one other : Table) (areas : List Area) (index : Index) → ((a : ℕ) → line_of one areas a ≡ line_of other areas a) → IsIndex one areas index → IsIndex other areas index
same_index one other areas index same i =
    let lines : line_of one areas ≡ line_of other areas = fun_ext same in
    record {
      in_order = i.in_order;
      used = λ l. subst (λ (f : ℕ → Option Line). Contains index.lines l ↔ ((a : ℕ) × (f a ≡ Some l))) lines (i.used l);
      positions = λ a. i.positions a ∙ ap (option_map Some) (same a);
      as_many = i.as_many;
      entries = λ k l es at is.
          let are = i.entries k l es at is in
          record {
            rising = are.rising;
            each = λ a. subst (λ (f : ℕ → Option Line). Contains es a ↔ ((f a ≡ Some l) × ((b : ℕ) → suc b ≡ a → f b ≢ Some l))) lines (are.each a);
          };
    }
