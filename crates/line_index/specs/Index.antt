-- What an index holds, and when it is that of a table and of a program's areas.
use Rattle.std.specs.Prelude.{◌≡◌, ℕ, Bool, ◌↔◌, List, [], length, get_or, slice_get, Option, Some, None, option_map, Contains}
use Rattle.std.specs.List.Sorted.{IsStrictlyIncreasing, IsStrictlySortedBy}
use Rattle.coz_types.specs.declared.image.Area.{Area}
use Rattle.dwarf_lines.specs.Registers.{Table}
use Rattle.line_index.specs.declared.changes.Change.{Change}
use Rattle.line_index.specs.declared.lines.Key.{Key}
use Rattle.line_index.specs.Changes.{value_at}
use Rattle.line_index.specs.Keys.{is_at}
use Rattle.line_index.specs.Lines.{Line, line_of, Begins, line_cmp}

-- the lines in order, the entry addresses of each, and from which address on which line stands
pub record Index : Type 0 where
  pub lines : List Line
  pub entries : List (List ℕ)
  pub changes : List Change

-- the position of the line of an address
abbrev pub position_at : Index → ℕ → Option ℕ
position_at index a = value_at a None index.changes

-- the line at this position stands at an address
abbrev pub has_line : Index → ℕ → ℕ → Bool
has_line index line a = is_at line (position_at index a)

-- these are the entry addresses of the line
pub record AreEntries (table : Table) (areas : List Area) (line : Line)
    (addresses : List ℕ) : Type 0 where
  pub rising : IsStrictlyIncreasing addresses
  pub each : (a : ℕ) → Contains addresses a ↔ Begins table areas line a

pub record IsIndex (table : Table) (areas : List Area) (index : Index) : Type 0 where
  pub in_order : IsStrictlySortedBy line_cmp index.lines
  pub used : (l : Line) → Contains index.lines l ↔ ((a : ℕ) × (line_of table areas a ≡ Some l))
  pub positions : (a : ℕ) → option_map (slice_get index.lines) (position_at index a)
      ≡ option_map Some (line_of table areas a)
  pub as_many : length index.entries ≡ length index.lines
  pub entries : (k : ℕ) (l : Line) (es : List ℕ) → slice_get index.lines k ≡ Some l
      → slice_get index.entries k ≡ Some es → AreEntries table areas l es

-- the line of a path by its position in a list, and of a number
abbrev pub line_at : List (List ℕ) → Key → Line
line_at paths key = record { path = get_or paths key.path []; number = key.number }
