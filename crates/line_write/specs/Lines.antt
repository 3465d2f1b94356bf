-- The table that a unit is read as, and the lines that addresses have by it.
use Rattle.std.specs.Prelude.{◌≡◌, ℕ, suc, ◌+◌, Bool, true, false, ◌&&◌, List, [], ◌∷◌, map, find, nat_le, nat_lt, option_map, Option, None, Some, Ok, if◌then◌else◌}
use Rattle.coz_types.specs.declared.image.Area.{Area}
use Rattle.coz_types.specs.Labels.{written}
use Rattle.dwarf_lines.specs.declared.Row.{Row}
use Rattle.dwarf_lines.specs.Names.{Strings}
use Rattle.dwarf_lines.specs.Reading.{reading}
use Rattle.dwarf_lines.specs.Registers.{File, Table}
use Rattle.line_index.specs.Lines.{Line, is_executable, line_of}
use Rattle.line_write.specs.Unit.{Sequence}

-- ---- the table

abbrev pub file_of : Sequence → File
file_of s = record { directory = []; name = s.path }

abbrev pub row_at : ℕ → ℕ → ℕ → Bool → Row
row_at sequence address line ends = record {
  sequence = sequence;
  address = address;
  file = Some sequence;
  line = line;
  column = 0;
  is_stmt = true;
  ends = ends;
}

-- the rows of the sequences from that of this number on
abbrev pub rows : ℕ → List Sequence → List Row
rows k [] = []
rows k (s ∷ more) =
    row_at k s.address s.number false ∷ row_at k (s.address + s.size) s.number true
    ∷ rows (suc k) more

unfoldable pub table : List Sequence → Table
table all = record { files = map file_of all; rows = rows 0 all; skipped = 0 }

-- ---- the lines

-- the address is one of the sequence's
abbrev pub has_address : ℕ → Sequence → Bool
has_address a s = nat_le s.address a && nat_lt a (s.address + s.size)

abbrev pub line_of_sequence : Sequence → Line
line_of_sequence s = record { path = written s.path; number = s.number }

-- the line of the first sequence that has the address
abbrev pub first_line : List Sequence → ℕ → Option Line
first_line all a = option_map line_of_sequence (find (has_address a) all)

-- The unit is read without a fault, and by it each executable address has the line of the first
-- sequence that has the address.
pub record GivesLines (all : List Sequence) (bytes : List ℕ) : Type 0 where
  pub read : (strings : Strings) → reading strings bytes ≡ Ok (table all)
  pub lines : (areas : List Area) (a : ℕ) → line_of (table all) areas a
      ≡ (if is_executable areas a then first_line all a else None)
