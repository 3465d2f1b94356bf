-- The line table of a written file, and the lines of its words.
use Rattle.std.specs.Prelude.{◌≡◌, ℕ, ◌+◌, ◌*◌, ◌<◌, ◌==◌, Bool, true, false, List, [], ◌∷◌, length, get_or, Option, None, Some, option_map, Result, Ok, Err, codes, if◌then◌else◌}
use Rattle.coz_types.specs.declared.image.Area.{Area}
use Rattle.coz_types.specs.Image.{ImageParts}
use Rattle.coz_types.specs.Labels.{written}
use Rattle.elf_load.specs.declared.ElfFault.{ElfFault}
use Rattle.elf_load.specs.Loaded.{load_answer, section}
use Rattle.dwarf_lines.specs.declared.LineFault.{LineFault}
use Rattle.dwarf_lines.specs.declared.Row.{Row}
use Rattle.dwarf_lines.specs.Names.{strings}
use Rattle.dwarf_lines.specs.Registers.{File, Table}
use Rattle.dwarf_lines.specs.Reading.{reading}
use Rattle.line_index.specs.Lines.{Line, line_of}
use Rattle.asm_values.specs.declared.TheConstants.{TEXT_START}
use Rattle.rv_asm.specs.Assembled.{Program}

-- the source, twice in version 5
abbrev pub files_of : ℕ → List ℕ → List File
files_of version name =
    let source : File = record { directory = []; name = name } in
    if version == 5 then source ∷ source ∷ [] else source ∷ []

-- of which the rows have the last
abbrev pub file_at : ℕ → ℕ
file_at version = if version == 5 then 1 else 0

-- a row of the only sequence
abbrev pub row_at : ℕ → ℕ → ℕ → Bool → Row
row_at version address line ends = record {
  sequence = 0;
  address = address;
  file = Some (file_at version);
  line = line;
  column = 0;
  is_stmt = true;
  ends = ends;
}

-- from the word at this address on, after a word of this line: a row whenever the line changes,
-- and one that ends the text
abbrev pub rows_from : ℕ → ℕ → ℕ → List ℕ → List Row
rows_from version address line [] = row_at version address line true ∷ []
rows_from version address line (l ∷ more) =
    if l == line
    then rows_from version (address + 4) line more
    else row_at version address l false ∷ rows_from version (address + 4) l more

-- the first word has a row
abbrev pub rows_of : ℕ → List ℕ → List Row
rows_of version [] = row_at version TEXT_START 1 true ∷ []
rows_of version (l ∷ more) =
    row_at version TEXT_START l false ∷ rows_from version (TEXT_START + 4) l more

-- of the lines of a program's words, and the name of its source
unfoldable pub table_of : List ℕ → List ℕ → ℕ → Table
table_of lines name version = record {
  files = files_of version name;
  rows = rows_of version lines;
  skipped = 0;
}

-- ---- the lines of a file's words

-- what the section of lines is read as, if all texts are in that section
abbrev pub read_table : List ℕ → Option (Result Table LineFault)
read_table file = option_map (reading (strings [] [])) (section file (codes ".debug_line"))

abbrev pub line_by : Option (Result Table LineFault) → List Area → ℕ → Option Line
line_by (Some (Ok table)) areas a = line_of table areas a
line_by _ areas a = None

abbrev pub line_where : Result ImageParts ElfFault → Option (Result Table LineFault) → ℕ
    → Option Line
line_where (Ok image) table a = line_by table image.areas a
line_where (Err fault) table a = None

-- the line of an address of a file, by its table and the areas that it loads as
unfoldable pub line_in : List ℕ → ℕ → Option Line
line_in file a = line_where (load_answer file) (read_table file) a

-- each word has the line of its statement, in the source of this name
abbrev pub HasLines : Program → List ℕ → List ℕ → Type 0
HasLines p name file =
    (k : ℕ) → k < length p.lines
    → line_in file (TEXT_START + 4 * k)
    ≡ Some (record { path = written name; number = get_or p.lines k 0 })
