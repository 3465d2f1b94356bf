-- The lines of a table have right labels.
use Rattle.std.proofs.Common.{◌≡◌, ℕ, ◌<◌, Bool, true, false, List, [], ◌∷◌, map, length, get_or, Option, Some, None, cond, option_map, option_and_then, slice_get, All, refl, sym, ap, ◌∙◌, subst, arith, ◌==◌}
use Rattle.std.specs.Global.{Vec}
use Rattle.std.proofs.lemmas.List.{length-map, get_or-map}
use Rattle.std.proofs.lemmas.List.Elements.{All-get_or, All-contains, All-from_recursion}
use Rattle.coz_types.specs.Labels.{Text, is_empty, is_written}
use Rattle.coz_types.specs.declared.image.Area.{Area}
use Rattle.dwarf_lines.specs.declared.Row.{Row}
use Rattle.dwarf_lines.specs.Registers.{File, Table}
use Rattle.line_index.specs.declared.changes.Change.{Change}
use Rattle.line_index.specs.declared.lines.Key.{Key}
use Rattle.line_index.specs.Lines.{Line, IsRight, path, entry_path, line_with, first_covering, line_of_row, is_executable, line_of}
use Rattle.line_index.specs.Keys.{HasPath, IsNumbered, texts}
use Rattle.line_index.specs.Index.{line_at}
use Rattle.line_index.proofs.Pieces.{Among, from_among, among_map}
use Rattle.line_index.proofs.Order.{all_map}
use Rattle.line_index.proofs.Whole.{Built, all_among, has_path, used_by}

-- ---- a line has a path

entry_named : (t : Bool) (text : Text) (number : ℕ) (l : Line) → is_empty text ≡ t → option_map (line_with number) (cond t None (Some text)) ≡ Some l → is_empty l.path ≡ false
entry_named true text number l e is = let no : ⊥ = cc in absurd no
entry_named false text number l e is = let same : line_with number text ≡ l = cc in ap (λ (m : Line). is_empty m.path) (sym same) ∙ e

file_named : (number : ℕ) (file : Option File) (l : Line) → option_and_then (λ file. option_map (line_with number) (entry_path file)) file ≡ Some l → is_empty l.path ≡ false
file_named number None l e = let no : ⊥ = cc in absurd no
file_named number (Some file) l e = entry_named (is_empty (path file)) (path file) number l refl e

row_named : (files : List File) (number : ℕ) (zero_line : Bool) (file : Option ℕ) (l : Line) → cond zero_line None (option_and_then (λ k. option_and_then (λ file. option_map (line_with number) (entry_path file)) (slice_get files k)) file) ≡ Some l → is_empty l.path ≡ false
row_named files number true file l e = let no : ⊥ = cc in absurd no
row_named files number false None l e = let no : ⊥ = cc in absurd no
row_named files number false (Some k) l e = file_named number (slice_get files k) l e

covered_named : (files : List File) (row : Option Row) (l : Line) → option_and_then (line_of_row files) row ≡ Some l → is_empty l.path ≡ false
covered_named files None l e = let no : ⊥ = cc in absurd no
covered_named files (Some row) l e = row_named files row.line (row.line == 0) row.file l e

within_named : (files : List File) (t : Bool) (row : Option Row) (l : Line) → cond t (option_and_then (line_of_row files) row) None ≡ Some l → is_empty l.path ≡ false
within_named files true row l e = covered_named files row l e
within_named files false row l e = let no : ⊥ = cc in absurd no

line_named : (table : Table) (areas : List Area) (a : ℕ) (l : Line) → line_of table areas a ≡ Some l → is_empty l.path ≡ false
unfolding line_of
line_named table areas a l e = within_named table.files (is_executable areas a) (first_covering a table.rows) l e

-- ---- each line is right

path_right : (paths : List (Vec ℕ)) (k : ℕ) → All (λ (text : Vec ℕ). is_written text.items ≡ true) paths → k < length (texts paths) → is_written (get_or (texts paths) k []) ≡ true
path_right [] k all within = absurd (omega arith)
path_right (first ∷ paths) k all within =
    let lt : k < length (first ∷ paths) = subst (λ n. k < n) (length-map (first ∷ paths) (λ (text : Vec ℕ). text.items)) within in
    ap is_written (get_or-map (λ (text : Vec ℕ). text.items) (first ∷ paths) k first [] lt) ∙ All-get_or (λ (text : Vec ℕ). is_written text.items ≡ true) (first ∷ paths) k first lt all

module _ (table : Table) (areas : List Area) (paths : List (Vec ℕ)) (positions : List (Option ℕ)) (keys : List Key) (changes lines : List Change) (built : Built table.files table.rows areas (texts paths) positions keys changes lines) where
  pub have_paths : All (HasPath (texts paths)) keys
  have_paths = All-from_recursion (HasPath (texts paths)) keys (all_among (HasPath (texts paths)) keys (λ key m. has_path table areas (texts paths) positions keys changes lines key built m))

  right_line : (key : Key) → All (λ (text : Vec ℕ). is_written text.items ≡ true) paths → All IsNumbered keys → Among key keys → IsRight (line_at (texts paths) key)
  right_line key written numbers m =
      let used = used_by table areas (texts paths) positions keys changes lines (line_at (texts paths) key) built (from_among _ (map (line_at (texts paths)) keys) (among_map (line_at (texts paths)) key keys m)) in
      let number = All-contains IsNumbered keys key numbers (from_among key keys m) in
      record {
        named = line_named table areas used.0 (line_at (texts paths) key) used.1;
        written = path_right paths key.path written (has_path table areas (texts paths) positions keys changes lines key built m);
        positive = number.0;
        small = number.1;
      }

  pub right_lines : All (λ (text : Vec ℕ). is_written text.items ≡ true) paths → All IsNumbered keys → All IsRight (map (line_at (texts paths)) keys)
  right_lines written numbers =
      All-from_recursion IsRight (map (line_at (texts paths)) keys) (all_map IsRight (line_at (texts paths)) keys (all_among (λ key. IsRight (line_at (texts paths) key)) keys (λ key m. right_line key written numbers m)))
