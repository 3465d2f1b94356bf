-- The program that is written, of which the words name the file.
use Rattle.std.specs.Prelude.{◌≡◌, ℕ, List, [], Some, Ok}
use Rattle.coz_types.specs.Image.{ImageParts}
use Rattle.coz_types.specs.Labels.{Text}
use Rattle.coz_files.specs.Held.{Held, file_at}
use Rattle.dwarf_lines.specs.Registers.{Table}
use Rattle.elf_load.specs.Loaded.{load_answer}
use Rattle.line_index.specs.Index.{Index, IsIndex}
use Rattle.line_remap.specs.Marks.{Mark, spelled_lines}
use Rattle.line_regions.specs.Regions.{Region, chosen_marks}
use Rattle.program_load.specs.LineTable.{table_in}
use Rattle.program_load.specs.Selection.{lines_named}
use Rattle.functions_cli.specs.Regions.{regions_named}
use Rattle.functions_cli.specs.Words.{Request, request_in}

-- the program that the words name, an index of its lines, and the marks of the kept ones and of
-- those of the regions
pub record IsNamed (words : List Text) (held : Held) (image : ImageParts) (index : Index)
    (marks : List Mark) : Type 0 where
  pub request : Request
  pub asked : request_in words ≡ Some request
  pub file : List ℕ
  pub there : file_at held request.target ≡ Some file
  pub loads : load_answer file ≡ Ok image
  pub table : Table
  pub reads : table_in file ≡ Ok table
  pub indexed : IsIndex table image.areas index
  pub kept : List ℕ
  pub lines : lines_named index.lines [] request.keep ≡ Ok kept
  pub regions : List Region
  pub named : regions_named (spelled_lines index) request.regions ≡ Ok regions
  pub chosen : marks ≡ chosen_marks index kept regions

-- of the program that the words name, an index of its lines and the marks of lines this holds
abbrev pub ProgramHas : List Text → Held → (ImageParts → Index → List Mark → Type 0) → Type 0
ProgramHas words held P =
    (image : ImageParts) × (index : Index) × (marks : List Mark)
    × IsNamed words held image index marks × P image index marks
