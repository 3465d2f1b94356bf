-- What an index keeps that was built of a program's table.
use Rattle.std.specs.Prelude.{◌≡◌, ℕ, suc, ◌<◌, ◌↔◌, true, false, List, [], length, get_or, Contains, Some}
use Rattle.coz_types.specs.declared.TheConstants.{LOAD_END}
use Rattle.coz_types.specs.declared.image.Area.{Area}
use Rattle.dwarf_lines.specs.Registers.{Table}
use Rattle.line_index.specs.Index.{Index, IsIndex, has_line, position_at}

-- the index of some line table, in these areas
abbrev pub IsIndexOf : List Area → Index → Type 0
IsIndexOf areas index = (table : Table) × IsIndex table areas index

-- the line begins at the address: it has the line, and the address before it has not
abbrev pub BeginsAt : Index → ℕ → ℕ → Type 0
BeginsAt index k a =
    (has_line index k a ≡ true) × ((b : ℕ) → suc b ≡ a → has_line index k b ≡ false)

pub record IsSound (index : Index) : Type 0 where
  pub within : (a k : ℕ) → position_at index a ≡ Some k → k < length index.lines
  pub low : (k a : ℕ) → has_line index k a ≡ true → a < LOAD_END
  pub as_many : length index.entries ≡ length index.lines
  pub entries : (k a : ℕ) → k < length index.lines
      → Contains (get_or index.entries k []) a ↔ BeginsAt index k a
