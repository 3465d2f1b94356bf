-- By the table of a unit an address has the line of the first sequence that has it.
use Rattle.std.proofs.Common.{◌≡◌, ◌<◌, ℕ, suc, ◌+◌, Bool, true, false, List, [], ◌∷◌, map, length, Option, Some, None, option_map, option_and_then, find, refl, ap, ◌∙◌, arith, nat_lt, nat_le, ◌==◌, ne_eqb, if◌then◌else◌, length-append}
use Rattle.std.specs.Prelude.{◌&&◌, ◌/◌, ◌%◌, slice_get}
use Rattle.std.proofs.lemmas.Bool.{eq-eqb}
use Rattle.coz_types.specs.declared.image.Area.{Area}
use Rattle.coz_types.specs.Labels.{is_escaped, escape_of, hex_digit, written}
use Rattle.dwarf_lines.specs.declared.Row.{Row}
use Rattle.dwarf_lines.specs.Registers.{File}
use Rattle.line_index.specs.Lines.{Line, line_with, entry_path, next_address, is_covered, first_covering, line_of_row, is_executable, line_of}
use Rattle.line_write.specs.Unit.{Sequence, IsWritable}
use Rattle.line_write.specs.Lines.{file_of, row_at, rows, table, has_address, line_of_sequence, first_line}
use Rattle.line_write.proofs.LineProgram.{AreWritable}

-- ---- the file of a row

AreFiles : List File → ℕ → List Sequence → Type 0
AreFiles files k [] = Unit {0}
AreFiles files k (s ∷ more) = (slice_get files k ≡ Some (file_of s)) × AreFiles files (suc k) more

behind : (f : File) (files : List File) (k : ℕ) (more : List Sequence) → AreFiles files k more → AreFiles (f ∷ files) (suc k) more
unfolding AreFiles
behind f files k [] are = tt
behind f files k (s ∷ more) are = (are.0, behind f files (suc k) more are.1)

own_files : (all : List Sequence) → AreFiles (map file_of all) 0 all
unfolding AreFiles
own_files [] = tt
own_files (s ∷ more) = (refl, behind (file_of s) (map file_of more) 0 more (own_files more))

-- ---- the line of a row

escaped_some : (t : Bool) (b : ℕ) → 0 < length (if t then 37 ∷ hex_digit (b / 16) ∷ hex_digit (b % 16) ∷ [] else b ∷ [])
escaped_some true b = omega arith
escaped_some false b = omega arith

written_some : (name : List ℕ) → 0 < length name → 0 < length (written name)
written_some [] some = absurd (omega arith)
written_some (b ∷ name) some = omega (arith, escaped_some (is_escaped b) b, length-append (escape_of b) (written name))

row_line : (files : List File) (k : ℕ) (s : Sequence) → IsWritable s → slice_get files k ≡ Some (file_of s) → line_of_row files (row_at k s.address s.number false) ≡ Some (line_of_sequence s)
row_line files k s right is =
    let path : entry_path (file_of s) ≡ Some (written s.path) =
    ap (λ (empty : Bool). if empty then None else Some (written s.path)) (ne_eqb (length (written s.path)) 0 (λ e. absurd (omega (arith, written_some s.path right.named)))) in
    ap (λ (none : Bool). if none then None else option_and_then (λ file. option_map (line_with s.number) (entry_path file)) (slice_get files k)) (ne_eqb s.number 0 (λ e. absurd (omega (arith, right.numbered))))
    ∙ ap (λ (file : Option File). option_and_then (λ file. option_map (line_with s.number) (entry_path file)) file) is
    ∙ ap (λ (p : Option (List ℕ)). option_map (line_with s.number) p) path

-- ---- the row of an address

none_later : (k j : ℕ) (more : List Sequence) → k < j → next_address k (rows j more) ≡ None
none_later k j [] less = refl
none_later k j (s ∷ more) less =
    ap (λ (b : Bool). option_map (λ (next : Row). next.address) (if b then Some (row_at j s.address s.number false) else (if b then Some (row_at j (s.address + s.size) s.number true) else find (λ (next : Row). next.sequence == k) (rows (suc j) more)))) (ne_eqb j k (λ e. absurd (omega (arith, e))))
    ∙ none_later k (suc j) more (omega arith)

abbrev covers : Option ℕ → ℕ → ℕ → Bool
covers end at a = elim end as (λ x. Bool) [ Some e ↦ nat_le at a && nat_lt a e | None ↦ false ]

first_covers : (k a : ℕ) (s : Sequence) (more : List Sequence) → is_covered a (row_at k s.address s.number false) (row_at k (s.address + s.size) s.number true ∷ rows (suc k) more) ≡ has_address a s
first_covers k a s more =
    ap (λ (b : Bool). covers (option_map (λ (next : Row). next.address) (if b then Some (row_at k (s.address + s.size) s.number true) else find (λ (next : Row). next.sequence == k) (rows (suc k) more))) s.address a) (eq-eqb k k refl)

last_covers : (k a b n : ℕ) (more : List Sequence) → is_covered a (row_at k b n true) (rows (suc k) more) ≡ false
last_covers k a b n more = ap (λ (end : Option ℕ). covers end b a) (none_later k (suc k) more (omega arith))

abbrev picked : Bool → Row → ℕ → List Row → Option Row
picked here row a later = if here then Some row else first_covering a later

lines_are : (files : List File) (a k : ℕ) (more : List Sequence) → AreWritable more → AreFiles files k more → option_and_then (line_of_row files) (first_covering a (rows k more)) ≡ first_line more a
unfolding AreFiles
lines_are files a k [] right are = refl
lines_are files a k (s ∷ more) right are =
    let first = row_at k s.address s.number false in
    let last = row_at k (s.address + s.size) s.number true in
    let here = has_address a s in
    let end_passed : first_covering a (last ∷ rows (suc k) more) ≡ first_covering a (rows (suc k) more) =
    ap (λ (b : Bool). picked b last a (rows (suc k) more)) (last_covers k a (s.address + s.size) s.number more) in
    let later : option_and_then (line_of_row files) (first_covering a (last ∷ rows (suc k) more)) ≡ first_line more a =
    ap (option_and_then (line_of_row files)) end_passed ∙ lines_are files a (suc k) more right.1 are.1 in
    ap (λ (b : Bool). option_and_then (line_of_row files) (picked b first a (last ∷ rows (suc k) more))) (first_covers k a s more)
    ∙ chosen here files a first (last ∷ rows (suc k) more) s more (row_line files k s right.0 are.0) later
  where
    chosen : (b : Bool) (files : List File) (a : ℕ) (first : Row) (rest : List Row) (s : Sequence) (more : List Sequence)
        → line_of_row files first ≡ Some (line_of_sequence s) → option_and_then (line_of_row files) (first_covering a rest) ≡ first_line more a
        → option_and_then (line_of_row files) (picked b first a rest) ≡ option_map line_of_sequence (if b then Some s else find (has_address a) more)
    chosen true files a first rest s more now later = now
    chosen false files a first rest s more now later = later

pub table_lines : (all : List Sequence) (areas : List Area) (a : ℕ) → AreWritable all → line_of (table all) areas a ≡ (if is_executable areas a then first_line all a else None)
unfolding line_of table
table_lines all areas a right = ap (λ (o : Option Line). if is_executable areas a then o else None) (lines_are (map file_of all) a 0 all right (own_files all))
