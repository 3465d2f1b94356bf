-- A file with another line table.
use Rattle.std.specs.Prelude.{◌≡◌, ℕ, Bool, false, ◌&&◌, List, bytes_eq, Option, Some, None, option_map, codes}
use Rattle.coz_types.specs.Image.{ImageParts}
use Rattle.elf_load.specs.Loaded.{load_answer, section, section_place}
use Rattle.function_lines.specs.declared.relined.LinesError.{LinesError}
use Rattle.function_lines.specs.declared.relined.LinesError.TheVariants.{NoLines, Overlap, Memory}
use Rattle.function_lines.specs.SameProgram.{is_same_program}
use Rattle.byte_write.specs.Files.{with_section}

-- the file whose section `.debug_line` is to be the unit, unless it has no such section
abbrev pub with_lines : List ℕ → List ℕ → Option (List ℕ)
with_lines file unit = option_map (with_section file unit) (section_place file (codes ".debug_line"))

abbrev pub is_section : Option (List ℕ) → List ℕ → Bool
is_section None unit = false
is_section (Some bytes) unit = bytes_eq bytes unit

-- it is the program of the image with this line table
abbrev pub has_lines : ImageParts → List ℕ → List ℕ → Bool
has_lines image unit file =
    is_same_program image (load_answer file) && is_section (section file (codes ".debug_line")) unit

-- why there is no such file
abbrev pub IsCause : ImageParts → List ℕ → LinesError → Type 0
IsCause image unit NoLines = section_place image.file (codes ".debug_line") ≡ None
IsCause image unit Overlap =
    option_map (has_lines image unit) (with_lines image.file unit) ≡ Some false
IsCause image unit Memory = Unit {0}
