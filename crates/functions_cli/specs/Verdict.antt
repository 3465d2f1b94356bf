-- What the words and the file of the program that they name come to: a status, a text for the
-- output and a line for the errors, after the program's name.
use Rattle.std.specs.Prelude.{◌≡◌, ℕ, ◌≤◌, ◌⊎◌, true, List, [], ◌++◌, length, codes, Option, Some, None, Result, Ok, Err}
use Rattle.coz_types.specs.Image.{ImageParts}
use Rattle.coz_types.specs.Labels.{Text}
use Rattle.coz_types.specs.declared.TheConstants.{MAX_PROGRAM}
use Rattle.coz_files.specs.Held.{Held, file_at}
pub use Rattle.coz_files.specs.Verdict.{Verdict, refusal, text_verdict}
use Rattle.file_read.specs.Reading.{file_in}
use Rattle.elf_load.specs.declared.ElfFault.{ElfFault}
use Rattle.elf_load.specs.Loaded.{load_answer}
use Rattle.dwarf_lines.specs.declared.LineFault.{LineFault}
use Rattle.dwarf_lines.specs.Registers.{Table}
use Rattle.line_index.specs.Index.{Index, IsIndex}
use Rattle.function_lines.specs.ByFunction.{IsByFunction, IsCauseOf, ReadsWithoutFault, IsWithFunctions}
use Rattle.line_remap.specs.Marks.{Mark, spelled_lines}
use Rattle.line_regions.specs.Regions.{Region, chosen_marks}
use Rattle.function_lines.specs.SameProgram.{is_same_program}
use Rattle.function_lines.specs.declared.file.FunctionsError.{FunctionsError}
use Rattle.function_lines.specs.declared.file.FunctionsError.TheVariants.{NoFunctions, NoLines, Much, Overlap, Memory}
use Rattle.program_load.specs.FaultLines.{program_line, table_line, no_line_line}
use Rattle.program_load.specs.LineTable.{table_in}
use Rattle.program_load.specs.Selection.{lines_named}
use Rattle.functions_cli.specs.declared.fault.Refusal.{Refusal}
use Rattle.functions_cli.specs.declared.fault.Refusal.TheVariants as refusals
use Rattle.functions_cli.specs.Regions.{regions_named}
use Rattle.functions_cli.specs.Words.{Request, request_in}

-- ---- the file that is written

-- It is the program with the line table in which each function is one line: it loads as the same
-- program, its line table is read without a fault, and by it each executable address has the line
-- by function.
pub record IsWritten (image : ImageParts) (index : Index) (marks : List Mark)
    (written : List ℕ) : Type 0 where
  pub file : IsWithFunctions image index marks written
  pub same_program : is_same_program image (load_answer written) ≡ true
  pub short : length written ≤ MAX_PROGRAM
  pub reads : ReadsWithoutFault written
  pub lines : IsByFunction image index marks written

abbrev pub refusal_text : Refusal → Text
refusal_text refusals.NoFunctions = codes "no functions"
refusal_text refusals.NoLines = codes "no lines"
refusal_text refusals.Overlap = codes "section headers are loaded"

abbrev pub refused : Refusal → Verdict
refused r = refusal 14 (refusal_text r)

-- of an error, but out of memory
abbrev pub error_verdict : Text → FunctionsError → Option Verdict
error_verdict target NoFunctions = Some (refused refusals.NoFunctions)
error_verdict target NoLines = Some (refused refusals.NoLines)
error_verdict target Overlap = Some (refused refusals.Overlap)
error_verdict target Much = Some (refusal 8 (codes "long: " ++ target))
error_verdict target Memory = None

-- of the file that is written, or of the cause that there is none
abbrev pub IsFunctionsVerdict : Text → ImageParts → Index → List Mark → Verdict → Type 0
IsFunctionsVerdict target image index marks v =
    ((written : List ℕ) × IsWritten image index marks written × (v ≡ text_verdict written))
    ⊎ ((error : FunctionsError) × IsCauseOf image index marks error
    × (error_verdict target error ≡ Some v))

-- ---- the program and its lines

-- of the regions, if the program has a line of each
abbrev pub IsRegionsVerdict : Request → ImageParts → Index → List ℕ → Result (List Region) Text → Verdict → Type 0
IsRegionsVerdict request image index kept (Err piece) v = v ≡ refusal 7 (no_line_line piece)
IsRegionsVerdict request image index kept (Ok regions) v =
    IsFunctionsVerdict request.target image index (chosen_marks index kept regions) v

-- of the lines that are kept, if the program has them
abbrev pub IsKeptVerdict : Request → ImageParts → Index → Result (List ℕ) Text → Verdict → Type 0
IsKeptVerdict request image index (Err piece) v = v ≡ refusal 7 (no_line_line piece)
IsKeptVerdict request image index (Ok kept) v =
    IsRegionsVerdict request image index kept
    (regions_named (spelled_lines index) request.regions) v

-- of an index of the lines of a table
abbrev pub IsIndexedVerdict : Request → ImageParts → Table → Verdict → Type 0
IsIndexedVerdict request image table v =
    (index : Index) × IsIndex table image.areas index
    × IsKeptVerdict request image index (lines_named index.lines [] request.keep) v

-- of a program, if the file is one, and its line table, if it has one
abbrev pub IsLoadedVerdict : Request → Result ImageParts ElfFault → Result Table LineFault → Verdict → Type 0
IsLoadedVerdict request (Err fault) table v = v ≡ refusal 3 (program_line fault)
IsLoadedVerdict request (Ok image) (Err fault) v = v ≡ refusal 4 (table_line fault)
IsLoadedVerdict request (Ok image) (Ok table) v = IsIndexedVerdict request image table v

-- ---- the words

abbrev pub IsFileVerdict : Request → Result (List ℕ) Verdict → Verdict → Type 0
IsFileVerdict request (Err refused) v = v ≡ refused
IsFileVerdict request (Ok file) v = IsLoadedVerdict request (load_answer file) (table_in file) v

abbrev pub IsRequestVerdict : Option Request → Held → Verdict → Type 0
IsRequestVerdict None held v = v ≡ refusal 2 (codes "usage")
IsRequestVerdict (Some request) held v =
    IsFileVerdict request (file_in MAX_PROGRAM request.target (file_at held request.target)) v

-- the verdict of these words, over files with these contents
abbrev pub IsVerdict : List Text → Held → Verdict → Type 0
IsVerdict words held v = IsRequestVerdict (request_in words) held v

-- the words and the files have one verdict at most
abbrev pub VerdictsAreOne : Type 0
VerdictsAreOne =
    (words : List Text) (held : Held) (v other : Verdict)
    → IsVerdict words held v → IsVerdict words held other → v ≡ other
