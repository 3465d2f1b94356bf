-- The line table of a program's file.
use Rattle.std.specs.Prelude.{ℕ, List, [], codes, Result, unwrap_or}
use Rattle.elf_load.specs.Loaded.{section}
use Rattle.dwarf_lines.specs.declared.LineFault.{LineFault}
use Rattle.dwarf_lines.specs.Registers.{Table}
use Rattle.dwarf_lines.specs.Names.{Strings, strings}
use Rattle.dwarf_lines.specs.Reading.{reading}

-- the bytes of its section of this name, none if it has no such section
abbrev pub bytes_in : List ℕ → List ℕ → List ℕ
bytes_in file name = unwrap_or (section file name) []

-- the two sections that texts of lines may stand in
abbrev pub strings_in : List ℕ → Strings
strings_in file =
    strings (bytes_in file (codes ".debug_str")) (bytes_in file (codes ".debug_line_str"))

-- the table of a file that is a program, or the table's first fault
unfoldable pub table_in : List ℕ → Result Table LineFault
table_in file = reading (strings_in file) (bytes_in file (codes ".debug_line"))
