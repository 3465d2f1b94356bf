-- A program in which each function is one line.
use Rattle.std.specs.Prelude.{◌≡◌, ℕ, ◌+◌, ◌<◌, ◌≤◌, ◌&&◌, Bool, true, false, List, [], length, find, nat_le, nat_lt, codes, Option, Some, None, option_map, option_and_then, Result, Ok, Err, if◌then◌else◌}
use Rattle.coz_types.specs.declared.TheConstants.{MAX_PROGRAM}
use Rattle.coz_types.specs.Image.{ImageParts}
use Rattle.dwarf_lines.specs.Names.{Strings}
use Rattle.dwarf_lines.specs.Reading.{reading}
use Rattle.dwarf_lines.specs.Registers.{Table}
use Rattle.elf_load.specs.Loaded.{section_place}
use Rattle.line_index.specs.Changes.{or_else}
use Rattle.line_index.specs.Index.{Index, position_at}
use Rattle.line_index.specs.Lines.{Line, is_executable, line_of}
use Rattle.line_write.specs.Lines.{GivesLines}
use Rattle.line_write.specs.Unit.{Sequence, unit}
use Rattle.line_write.specs.declared.UnitError.{UnitError}
use Rattle.line_write.specs.declared.UnitError.TheVariants.{TooLong}
use Rattle.line_write.specs.declared.UnitError.TheVariants as units
use Rattle.elf_symbols.specs.declared.symbols.Symbol.{Symbol}
use Rattle.function_lines.specs.declared.file.FunctionsError.{FunctionsError}
use Rattle.function_lines.specs.declared.file.FunctionsError.TheVariants.{NoFunctions, NoLines, Much, Overlap, Memory}
use Rattle.line_remap.specs.Marks.{Mark, marked}
use Rattle.function_sequences.specs.Sequences.{AreSequences, bytes_in, falling, function_line, functions_in, names_in}
use Rattle.function_lines.specs.WithLines.{has_lines, with_lines}

-- ---- which line an address has

-- the address is one of the function's
abbrev pub reaches : ℕ → Symbol → Bool
reaches a symbol = nat_le symbol.address a && nat_lt a (symbol.address + symbol.size)

-- the function with the greatest first address among those that have the address
abbrev pub function_at : ImageParts → ℕ → Option Symbol
function_at image a = find (reaches a) (falling (functions_in image))

-- the line that the mark of the program's own line gives the address; else that of its function
abbrev pub line_by_function : ImageParts → Index → List Mark → ℕ → Option Line
line_by_function image index marks a =
    or_else (option_and_then (marked marks) (position_at index a))
    (option_map (function_line index (names_in image.file)) (function_at image a))

-- ---- the unit

-- the bytes of the unit of such sequences, which is read as its rows
pub record IsUnit (image : ImageParts) (index : Index) (marks : List Mark)
    (bytes : List ℕ) : Type 0 where
  pub sequences : List Sequence
  pub are : AreSequences image index marks sequences
  pub unit : bytes ≡ unit sequences
  pub gives : GivesLines sequences bytes

-- the unit alone is longer than a program may be
pub record IsLongUnit (image : ImageParts) (index : Index) (marks : List Mark) : Type 0 where
  pub sequences : List Sequence
  pub are : AreSequences image index marks sequences
  pub long : MAX_PROGRAM < length (unit sequences)

abbrev pub IsUnitCause : ImageParts → Index → List Mark → UnitError → Type 0
IsUnitCause image index marks TooLong = IsLongUnit image index marks
IsUnitCause image index marks units.Memory = Unit {0}

-- ---- the file

-- the program has a function
abbrev pub HasFunctions : ImageParts → Type 0
HasFunctions image = functions_in image ≡ [] → ⊥

-- The program has a function, and the file has the unit of such sequences as its line table: all
-- its other bytes are as they were. It is the program with this line table, and not too long.
pub record IsWithFunctions (image : ImageParts) (index : Index) (marks : List Mark)
    (written : List ℕ) : Type 0 where
  pub some : HasFunctions image
  pub sequences : List Sequence
  pub are : AreSequences image index marks sequences
  pub file : with_lines image.file (unit sequences) ≡ Some written
  pub right : has_lines image (unit sequences) written ≡ true
  pub short : length written ≤ MAX_PROGRAM

-- the file's line table is read as this table, whatever stands in the sections of its texts
abbrev pub ReadsAs : List ℕ → Table → Type 0
ReadsAs file table =
    (strings : Strings) → reading strings (bytes_in file (codes ".debug_line")) ≡ Ok table

-- its line table is read without a fault, and nothing of it is skipped
pub record ReadsWithoutFault (file : List ℕ) : Type 0 where
  pub table : Table
  pub reads : ReadsAs file table
  pub whole : table.skipped ≡ 0

-- by its line table each executable address has the line by function
abbrev pub IsByFunction : ImageParts → Index → List Mark → List ℕ → Type 0
IsByFunction image index marks file =
    (table : Table) → ReadsAs file table → (a : ℕ)
    → line_of table image.areas a
    ≡ (if is_executable image.areas a then line_by_function image index marks a else None)

-- ---- causes

-- with this unit the file would be longer than a program may be
abbrev pub IsLongWith : List ℕ → List ℕ → Type 0
IsLongWith file unit =
    (written : List ℕ) × (with_lines file unit ≡ Some written) × (MAX_PROGRAM < length written)

-- with this unit the file is not the program with the unit as its line table
abbrev pub IsOtherWith : ImageParts → List ℕ → Type 0
IsOtherWith image unit = option_map (has_lines image unit) (with_lines image.file unit) ≡ Some false

-- why there is no file with this unit
abbrev pub IsFileCause : ImageParts → List ℕ → FunctionsError → Type 0
IsFileCause image unit NoFunctions = ⊥
IsFileCause image unit NoLines = section_place image.file (codes ".debug_line") ≡ None
IsFileCause image unit Much = IsLongWith image.file unit
IsFileCause image unit Overlap = (IsLongWith image.file unit → ⊥) × IsOtherWith image unit
IsFileCause image unit Memory = Unit {0}

-- it has a function, and no section of lines
pub record IsLineless (image : ImageParts) : Type 0 where
  pub some : HasFunctions image
  pub none : section_place image.file (codes ".debug_line") ≡ None

-- it has a function, and the file would be too long
pub record IsMuch (image : ImageParts) (index : Index) (marks : List Mark) : Type 0 where
  pub some : HasFunctions image
  pub sequences : List Sequence
  pub are : AreSequences image index marks sequences
  pub long : IsLongWith image.file (unit sequences)

-- it has a function, the file would not be too long, and it is not the program with the unit
pub record IsOverlap (image : ImageParts) (index : Index) (marks : List Mark) : Type 0 where
  pub some : HasFunctions image
  pub sequences : List Sequence
  pub are : AreSequences image index marks sequences
  pub short : IsLongWith image.file (unit sequences) → ⊥
  pub other : IsOtherWith image (unit sequences)

-- why there is no file in which each function is one line: the first of these causes that holds
abbrev pub IsCauseOf : ImageParts → Index → List Mark → FunctionsError → Type 0
IsCauseOf image index marks NoFunctions = functions_in image ≡ []
IsCauseOf image index marks NoLines = IsLineless image
IsCauseOf image index marks Much = IsMuch image index marks
IsCauseOf image index marks Overlap = IsOverlap image index marks
IsCauseOf image index marks Memory = Unit {0}

-- ---- answers

-- what comes of a program, an index and marks: the file, or the cause that there is none
abbrev pub IsAnswer : ImageParts → Index → List Mark → Result (List ℕ) FunctionsError → Type 0
IsAnswer image index marks (Ok written) = IsWithFunctions image index marks written
IsAnswer image index marks (Err error) = IsCauseOf image index marks error

abbrev pub IsMemory : Result (List ℕ) FunctionsError → Type 0
IsMemory answer = answer ≡ Err Memory

-- but out of memory, one answer at most comes of them
abbrev pub AnswersAreOne : Type 0
AnswersAreOne =
    (image : ImageParts) (index : Index) (marks : List Mark)
    (one other : Result (List ℕ) FunctionsError)
    → IsAnswer image index marks one → IsAnswer image index marks other
    → (IsMemory one → ⊥) → (IsMemory other → ⊥) → one ≡ other
