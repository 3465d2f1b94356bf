-- Lines by the position of their path, and the positions of lines.
use Rattle.std.specs.Prelude.{◌≡◌, ℕ, ◌+◌, ◌<◌, ◌^◌, Bool, false, not, ◌&&◌, length, List, [], ◌∷◌, ◌++◌, map, slice_get, get_or, Option, Some, None, option_map, option_and_then, ◌==◌, if◌then◌else◌, IfSome}
use Rattle.std.specs.List.{filter_map}
use Rattle.std.specs.declared.cmp.Ordering.{Ordering}
use Rattle.std.specs.Ordering.{nat_cmp, ordering_then}
use Rattle.std.specs.Cmp.Lexicographic.{slice_cmp}
use Rattle.std.specs.Global.{Vec}
use Rattle.dwarf_lines.specs.declared.FileName.{FileName}
use Rattle.dwarf_lines.specs.declared.Row.{Row}
use Rattle.dwarf_lines.specs.Registers.{File}
use Rattle.line_index.specs.declared.entry.Entry.{Entry}
use Rattle.line_index.specs.Lines.{entry_path}
use Rattle.line_index.specs.declared.changes.Change.{Change}
use Rattle.line_index.specs.declared.lines.Key.{Key}

-- the paths without where they lie in memory
abbrev pub texts : List (Vec ℕ) → List (List ℕ)
texts paths = map (λ (path : Vec ℕ). path.items) paths

abbrev pub path_cmp : Vec ℕ → Vec ℕ → Ordering
path_cmp path other = slice_cmp nat_cmp path.items other.items

-- the position of a path that is an entry
abbrev pub path_place : List (Vec ℕ) → Option ℕ → Option (Option (List ℕ))
path_place paths position = option_map (slice_get (texts paths)) position

-- each position is that of the file's path, if it has one
abbrev pub ArePlaces : List (Vec ℕ) → List (Option ℕ) → List File → Type 0
ArePlaces paths positions files =
    map (path_place paths) positions
    ≡ map (λ (file : File). option_map Some (entry_path file)) files

abbrev pub key_cmp : Key → Key → Ordering
key_cmp k m = ordering_then (nat_cmp k.path m.path) (nat_cmp k.number m.number)

-- its number is one of a label
abbrev pub IsNumbered : Key → Type 0
IsNumbered key = (0 < key.number) × (key.number < 2 ^ 32)

abbrev pub with_path : ℕ → ℕ → Key
with_path number path = record { path = path; number = number }

-- it is this key
abbrev pub is_key : Key → Key → Bool
is_key key other = other.number == key.number && other.path == key.path

-- its path is one of these
abbrev pub HasPath : List (List ℕ) → Key → Type 0
HasPath paths key = key.path < length paths

-- the file that the row at a position names, unless its line is 0
abbrev pub named_file : List Row → Option ℕ → Option ℕ
named_file rows position =
    option_and_then (λ k.
    option_and_then (λ (row : Row). if row.line == 0 then None else row.file)
    (slice_get rows k)) position

-- the key of a row, if these are the positions of the files' paths
abbrev pub row_key : List (Option ℕ) → Row → Option Key
row_key ranks row =
    if row.line == 0 then None
    else option_and_then (λ k.
    option_and_then (λ rank. option_map (with_path row.line) rank) (slice_get ranks k)) row.file

-- the key of the row at a position
abbrev pub key_at : List Row → List (Option ℕ) → Option ℕ → Option Key
key_at rows ranks position =
    option_and_then (λ k. option_and_then (row_key ranks) (slice_get rows k)) position

-- the keys of the rows that changes name
abbrev pub change_keys : List Row → List (Option ℕ) → List Change → List Key
change_keys rows ranks changes = filter_map (λ (c : Change). key_at rows ranks c.position) changes

abbrev pub key_change : List Row → List (Option ℕ) → Change → ℕ × Option (Option Key)
key_change rows ranks c = (c.address, option_map Some (key_at rows ranks c.position))

abbrev pub line_change : List Key → Change → ℕ × Option (Option Key)
line_change keys c = (c.address, option_map (slice_get keys) c.position)

-- it is below a bound
abbrev pub IsBelow : ℕ → Change → Type 0
IsBelow count c = IfSome c.position (λ k. k < count)

abbrev pub is_at : ℕ → Option ℕ → Bool
is_at k None = false
is_at k (Some j) = j == k

-- where the line at this position begins
abbrev pub starts : ℕ → Option ℕ → List Change → List ℕ
starts k before [] = []
starts k before (c ∷ cs) =
    (if is_at k c.position && not (is_at k before) then c.address ∷ [] else [])
    ++ starts k c.position cs

-- for each line where it begins
pub record AreStarts (count : ℕ) (changes : List Change) (lists : List (List ℕ)) : Type 0 where
  pub as_many : length lists ≡ count
  pub each : (k : ℕ) → k < count → slice_get lists k ≡ Some (starts k None changes)

-- an entry without where its bytes lie in memory
abbrev pub entry_view : Entry → File
entry_view entry = record { directory = entry.directory.now; name = entry.name.now }

abbrev pub entries_view : List Entry → List File
entries_view entries = map entry_view entries

-- by name, then by directory
abbrev pub entry_cmp : Entry → Entry → Ordering
entry_cmp entry other =
    ordering_then (slice_cmp nat_cmp entry.name.now other.name.now)
    (slice_cmp nat_cmp entry.directory.now other.directory.now)

-- how many bytes a file's name and that of its directory have
abbrev pub name_size : FileName → ℕ
name_size file = length file.directory.now + length file.name.now

-- how many bytes the label of a line has at most: its path, a colon and ten digits
abbrev pub label_size : List (List ℕ) → Key → ℕ
label_size paths key = length (get_or paths key.path []) + 11
