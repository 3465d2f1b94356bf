-- The line of an address, and how lines are written, ordered and found.
use Rattle.std.specs.Prelude.{◌≡◌, ℕ, suc, ◌+◌, ◌-◌, ◌<◌, ◌^◌, ◌≢◌, Bool, false, ◌&&◌, ◌||◌, List, [], ◌∷◌, ◌++◌, length, drop, slice_get, Option, Some, None, option_map, option_and_then, find, position, true, nat_lt, nat_le, ◌==◌, if◌then◌else◌, bytes_eq, map, get_or}
use Rattle.std.specs.List.{list_any}
use Rattle.std.specs.declared.cmp.Ordering.{Ordering}
use Rattle.std.specs.Ordering.{nat_cmp, ordering_then}
use Rattle.std.specs.Cmp.Lexicographic.{slice_cmp}
use Rattle.coz_types.specs.declared.image.Area.{Area}
use Rattle.coz_types.specs.Labels.{is_empty, written, is_written, label_of}
use Rattle.dwarf_lines.specs.declared.Row.{Row}
use Rattle.dwarf_lines.specs.Registers.{File, Table}
use Rattle.line_index.specs.Changes.{or_else}

-- a written path and a number
pub record Line : Type 0 where
  pub path : List ℕ
  pub number : ℕ

-- it begins with a slash
abbrev pub is_rooted : List ℕ → Bool
is_rooted [] = false
is_rooted (b ∷ bs) = b == 47

-- its name, after its directory and a slash if it has one and doesn't begin at the root itself
abbrev pub full_name : File → List ℕ
full_name file =
    if is_empty file.directory || is_rooted file.name then file.name
    else file.directory ++ 47 ∷ file.name

-- the written path of a file
abbrev pub path : File → List ℕ
path file = written (full_name file)

-- a file whose written path is empty counts as no entry
abbrev pub entry_path : File → Option (List ℕ)
entry_path file = if is_empty (path file) then None else Some (path file)

-- ---- the line of an address

-- the address of the next row of the sequence
abbrev pub next_address : ℕ → List Row → Option ℕ
next_address sequence later =
    option_map (λ (next : Row). next.address)
    (find (λ (next : Row). next.sequence == sequence) later)

-- a row covers the addresses from its own up to that of the next row of its sequence,
-- which is not among them
abbrev pub is_covered : ℕ → Row → List Row → Bool
is_covered a row later = elim (next_address row.sequence later) [
  | Some end ↦ nat_le row.address a && nat_lt a end
  | None ↦ false
]

abbrev pub first_covering : ℕ → List Row → Option Row
first_covering a [] = None
first_covering a (row ∷ rows) = if is_covered a row rows then Some row else first_covering a rows

abbrev pub line_with : ℕ → List ℕ → Line
line_with number path = record { path = path; number = number }

-- line 0, and a file number without an entry, are no line
abbrev pub line_of_row : List File → Row → Option Line
line_of_row files row =
    if row.line == 0 then None
    else option_and_then (λ k.
    option_and_then (λ file. option_map (line_with row.line) (entry_path file)) (slice_get files k))
    row.file

abbrev pub is_executable : List Area → ℕ → Bool
is_executable areas a =
    list_any (λ (area : Area).
    area.rights.execute && (nat_le area.start a && nat_lt a (area.start + area.size))) areas

-- the line of an address, if it has one
unfoldable pub line_of : Table → List Area → ℕ → Option Line
line_of table areas a =
    if is_executable areas a
    then option_and_then (line_of_row table.files) (first_covering a table.rows)
    else None

-- the address has the line, and the address before it has not
abbrev pub Begins : Table → List Area → Line → ℕ → Type 0
Begins table areas line a =
    (line_of table areas a ≡ Some line) × ((b : ℕ) → suc b ≡ a → line_of table areas b ≢ Some line)

-- ---- labels

-- the written path, a colon and the number
abbrev pub label : Line → List ℕ
label line = label_of line.path line.number

-- the label of the line at a position
abbrev pub label_at : List Line → ℕ → List ℕ
label_at lines k = get_or (map label lines) k []

-- its label is a right one
pub record IsRight (line : Line) : Type 0 where
  pub named : is_empty line.path ≡ false
  pub written : is_written line.path ≡ true
  pub positive : 0 < line.number
  pub small : line.number < 2 ^ 32

-- ---- order and search

-- by the paths' bytes, then by number
abbrev pub line_cmp : Line → Line → Ordering
line_cmp l m = ordering_then (slice_cmp nat_cmp l.path m.path) (nat_cmp l.number m.number)

abbrev pub is_line_named : List ℕ → ℕ → Line → Bool
is_line_named text number line = line.number == number && bytes_eq line.path text

-- the path ends with a slash and the text
abbrev pub ends_with : List ℕ → List ℕ → Bool
ends_with path text = bytes_eq (drop (length path - suc (length text)) path) (47 ∷ text)

abbrev pub is_line_below : List ℕ → ℕ → Line → Bool
is_line_below text number line = line.number == number && ends_with line.path text

-- where in a list of lines in order: that of the path, else the first whose path ends with it
abbrev pub position_named : List ℕ → ℕ → List Line → Option ℕ
position_named text number lines =
    or_else (position (is_line_named text number) lines)
    (position (is_line_below text number) lines)
