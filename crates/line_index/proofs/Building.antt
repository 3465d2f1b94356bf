-- What building found, joined.
use Rattle.std.proofs.Common.{◌≡◌, ℕ, ◌↔◌, List, [], ◌∷◌, length, map, slice_get, Option, Some, None, cond, option_map, Contains, refl, sym, ap, ◌∙◌, subst}
use Rattle.std.specs.Global.{Vec}
use Rattle.std.specs.List.{position_from}
use Rattle.std.specs.Ordering.{nat_cmp}
use Rattle.std.specs.Cmp.Lexicographic.{slice_cmp}
use Rattle.std.specs.List.Sorted.{IsStrictlySortedBy}
use Rattle.coz_types.specs.declared.image.Area.{Area}
use Rattle.dwarf_lines.specs.declared.Row.{Row}
use Rattle.dwarf_lines.specs.Registers.{File, Table}
use Rattle.line_index.specs.declared.changes.Change.{Change}
use Rattle.line_index.specs.declared.lines.Key.{Key}
use Rattle.line_index.specs.Changes.{value_at, IsRising, is_in_span}
use Rattle.line_index.specs.Lines.{label, entry_path, is_executable}
use Rattle.line_index.specs.Spans.{row_spans}
use Rattle.line_index.specs.Keys.{key_cmp, path_cmp, path_place, texts, key_at, change_keys, key_change, line_change, AreStarts}
use Rattle.std.proofs.lemmas.List.{length-map}
use Rattle.line_index.specs.Index.{line_at}
use Rattle.line_index.proofs.Pieces.{same_rising}
use Rattle.line_index.proofs.Order.{sorted_map}
use Rattle.line_index.proofs.Whole.{Built}

-- the parts, each as a call was given them
pub is_built : (table : Table) (areas areas1 : List Area) (rows1 : List Row) (files1 : List File) (paths : List (Vec ℕ)) (positions positions1 : List (Option ℕ)) (keys : List Key) (covering covering1 changes : List Change)
    → areas1 ≡ areas → rows1 ≡ table.rows → files1 ≡ table.files → positions1 ≡ positions → covering1 ≡ covering
    → IsStrictlySortedBy path_cmp paths
    → map (path_place paths) positions ≡ map (λ (file : File). option_map Some (entry_path file)) files1
    → ((a : ℕ) → value_at a None covering ≡ cond (is_executable areas1 a) (position_from (is_in_span a) 0 (row_spans rows1)) None)
    → IsRising 0 covering
    → IsStrictlySortedBy key_cmp keys
    → ((key : Key) → Contains keys key ↔ Contains (change_keys rows1 positions1 covering1) key)
    → map (line_change keys) changes ≡ map (key_change rows1 positions1) covering1
    → Built table.files table.rows areas (texts paths) positions keys covering changes
is_built table areas areas1 rows1 files1 paths positions positions1 keys covering covering1 changes same_areas same_rows same_files same_positions same_covering paths_rise placed values rise keys_rise each lined =
    let keys_same : change_keys rows1 positions1 covering1 ≡ change_keys table.rows positions covering = λ i. change_keys (same_rows i) (same_positions i) (same_covering i) in
    let right : map (key_change rows1 positions1) covering1 ≡ map (key_change table.rows positions) covering = λ i. map (key_change (same_rows i) (same_positions i)) (same_covering i) in
    record {
      paths_rise = sorted_map (λ (path : Vec ℕ). path.items) (slice_cmp nat_cmp) paths paths_rise;
      placed = placed ∙ ap (map (λ (file : File). option_map Some (entry_path file))) same_files;
      values = λ a. values a ∙ ap (λ ranges. cond (is_executable ranges a) (position_from (is_in_span a) 0 (row_spans rows1)) None) same_areas ∙ ap (λ rows. cond (is_executable areas a) (position_from (is_in_span a) 0 (row_spans rows)) None) same_rows;
      rise = rise;
      keys_rise = keys_rise;
      each = λ key. subst (λ (ks : List Key). Contains keys key ↔ Contains ks key) keys_same (each key);
      lined = lined ∙ right;
    }

pub are_starts_of : (n m : ℕ) (cs ds : List Change) (lists : List (List ℕ)) → n ≡ m → cs ≡ ds → AreStarts n cs lists → AreStarts m ds lists
are_starts_of n m cs ds lists e f h = subst (λ xs. AreStarts m xs lists) f (subst (λ k. AreStarts k cs lists) e h)

map_twice : (paths : List (List ℕ)) (keys : List Key) → map (λ (key : Key). label (line_at paths key)) keys ≡ map label (map (line_at paths) keys)
map_twice paths [] = refl
map_twice paths (key ∷ keys) = ap (λ (ls : List (List ℕ)). label (line_at paths key) ∷ ls) (map_twice paths keys)

pub labels_are : (labels : List (List ℕ)) (paths8 paths : List (Vec ℕ)) (keys9 keys : List Key) → paths8 ≡ paths → keys9 ≡ keys → labels ≡ map (λ (key : Key). label (line_at (texts paths8) key)) keys9 → labels ≡ map label (map (line_at (texts paths)) keys)
labels_are labels paths8 paths keys9 keys same8 same9 are =
    let moved : map (λ (key : Key). label (line_at (texts paths8) key)) keys9 ≡ map (λ (key : Key). label (line_at (texts paths) key)) keys = λ i. map (λ (key : Key). label (line_at (texts (same8 i)) key)) (same9 i) in
    are ∙ moved ∙ map_twice (texts paths) keys

pub entries_many : (entries : List (List ℕ)) (changes : List Change) (n m : ℕ) → n ≡ m → AreStarts n changes entries → length entries ≡ m
entries_many entries changes n m e all = all.as_many ∙ e

pub changes_many : (rows : List Row) (positions : List (Option ℕ)) (keys : List Key) (covering changes : List Change) → map (line_change keys) changes ≡ map (key_change rows positions) covering → length changes ≡ length covering
changes_many rows positions keys covering changes lined = sym (length-map changes (line_change keys)) ∙ ap length lined ∙ length-map covering (key_change rows positions)

pub rise_of : (rows : List Row) (positions : List (Option ℕ)) (keys : List Key) (covering6 covering changes : List Change) → covering6 ≡ covering → IsRising 0 covering → map (line_change keys) changes ≡ map (key_change rows positions) covering6 → IsRising 0 changes
rise_of rows positions keys covering6 covering changes same up lined =
    same_rising (λ p. option_map (slice_get keys) p) (λ p. option_map Some (key_at rows positions p)) changes covering (lined ∙ ap (map (key_change rows positions)) same) up
