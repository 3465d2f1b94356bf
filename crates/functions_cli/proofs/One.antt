-- Words and the files have one verdict at most.
use Rattle.std.proofs.Common.{◌≡◌, ℕ, inl, inr, List, [], Option, Some, None, Result, Ok, Err, sym, ap, subst, ◌∙◌}
use Rattle.coz_types.specs.declared.TheConstants.{MAX_PROGRAM}
use Rattle.coz_types.specs.Image.{ImageParts}
use Rattle.coz_types.specs.Labels.{Text}
use Rattle.coz_files.specs.Held.{Held, file_at}
use Rattle.coz_files.specs.Verdict.{Verdict, text_verdict}
use Rattle.file_read.specs.Reading.{file_in}
use Rattle.elf_load.specs.declared.ElfFault.{ElfFault}
use Rattle.elf_load.specs.Loaded.{load_answer}
use Rattle.dwarf_lines.specs.declared.LineFault.{LineFault}
use Rattle.dwarf_lines.specs.Registers.{Table}
use Rattle.line_index.specs.Index.{Index}
use Rattle.line_index.specs.Lines.{Line}
use Rattle.line_remap.specs.Marks.{Mark, spelled_lines}
use Rattle.line_regions.specs.Regions.{Region, chosen_marks}
use Rattle.function_lines.specs.ByFunction.{IsAnswer}
use Rattle.function_lines.specs.declared.file.FunctionsError.{FunctionsError}
use Rattle.function_lines.specs.declared.file.FunctionsError.TheVariants.{Memory}
use Rattle.function_lines.proofs.Alike.{AreSame, answer_along, same_indexes, same_marks}
use Rattle.function_lines.proofs.One.{answers_one}
use Rattle.program_load.specs.LineTable.{table_in}
use Rattle.program_load.specs.Selection.{lines_named}
use Rattle.functions_cli.specs.Regions.{regions_named}
use Rattle.functions_cli.specs.Words.{Request, request_in}
use Rattle.functions_cli.specs.Verdict.{IsFileVerdict, IsFunctionsVerdict, IsIndexedVerdict, IsKeptVerdict, IsLoadedVerdict, IsRegionsVerdict, IsRequestVerdict, VerdictsAreOne, error_verdict}

-- ---- answers and their verdicts

abbrev of_answer : Text → Result (List ℕ) FunctionsError → Option Verdict
of_answer target (Ok file) = Some (text_verdict file)
of_answer target (Err error) = error_verdict target error

-- a verdict is that of an answer
record IsAnswered (target : Text) (image : ImageParts) (index : Index) (marks : List Mark) (v : Verdict) : Type 0 where
  answer : Result (List ℕ) FunctionsError
  is : IsAnswer image index marks answer
  room : answer ≡ Err Memory → ⊥
  verdict : of_answer target answer ≡ Some v

some_one : (v other : Verdict) → Some v ≡ Some other → v ≡ other
some_one v other e = cc

room_by : (target : Text) (v : Verdict) (answer : Result (List ℕ) FunctionsError) → of_answer target answer ≡ Some v → answer ≡ Err Memory → ⊥
room_by target v answer is memory = let no : None ≡ Some v = sym (ap (of_answer target) memory) ∙ is in cc

answered : (target : Text) (image : ImageParts) (index : Index) (marks : List Mark) (v : Verdict) → IsFunctionsVerdict target image index marks v → IsAnswered target image index marks v
answered target image index marks v (inl (file, is, told)) =
    let verdict : of_answer target (Ok file) ≡ Some v = ap (λ (w : Verdict). Some w) (sym told) in
    record { answer = Ok file; is = is.file; room = room_by target v (Ok file) verdict; verdict = verdict }
answered target image index marks v (inr (error, is, told)) =
    record { answer = Err error; is = is; room = room_by target v (Err error) told; verdict = told }

module _ (request : Request) (image : ImageParts) (index other : Index) (same : AreSame index other) (v w : Verdict) where
  functions_one : (marks : List Mark) → IsFunctionsVerdict request.target image index marks v → IsFunctionsVerdict request.target image other marks w → v ≡ w
  functions_one marks is also =
      let one = answered request.target image index marks v is in
      let two = answered request.target image other marks w also in
      let equal = answers_one image other marks one.answer two.answer (answer_along image index other same marks one.answer one.is) two.is one.room two.room in
      some_one v w (sym one.verdict ∙ ap (of_answer request.target) equal ∙ two.verdict)

  regions_one : (kept : List ℕ) (named : Result (List Region) Text) → IsRegionsVerdict request image index kept named v → IsRegionsVerdict request image other kept named w → v ≡ w
  regions_one kept (Err piece) is also = is ∙ sym also
  regions_one kept (Ok regions) is also =
      functions_one (chosen_marks other kept regions)
      (subst (λ (marks : List Mark). IsFunctionsVerdict request.target image index marks v) (same_marks image index other same kept regions) is) also

  same_regions : regions_named (spelled_lines index) request.regions ≡ regions_named (spelled_lines other) request.regions
  same_regions = ap (λ (lines : List Line). regions_named (spelled_lines (record index { lines = lines })) request.regions) same.lines

  kept_one : (named : Result (List ℕ) Text) → IsKeptVerdict request image index named v → IsKeptVerdict request image other named w → v ≡ w
  kept_one (Err piece) is also = is ∙ sym also
  kept_one (Ok kept) is also =
      regions_one kept (regions_named (spelled_lines other) request.regions)
      (subst (λ (named : Result (List Region) Text). IsRegionsVerdict request image index kept named v) same_regions is) also

-- ---- the file and the words

module _ (request : Request) (v w : Verdict) where
  indexed_one : (image : ImageParts) (table : Table) → IsIndexedVerdict request image table v → IsIndexedVerdict request image table w → v ≡ w
  indexed_one image table (index, right, is) (other, also_right, also) =
      let same = same_indexes table image index other right also_right in
      kept_one request image index other same v w (lines_named other.lines [] request.keep)
      (subst (λ (lines : List Line). IsKeptVerdict request image index (lines_named lines [] request.keep) v) same.lines is) also

  loaded_one : (program : Result ImageParts ElfFault) (table : Result Table LineFault) → IsLoadedVerdict request program table v → IsLoadedVerdict request program table w → v ≡ w
  loaded_one (Err fault) table is also = is ∙ sym also
  loaded_one (Ok image) (Err fault) is also = is ∙ sym also
  loaded_one (Ok image) (Ok table) is also = indexed_one image table is also

  file_one : (file : Result (List ℕ) Verdict) → IsFileVerdict request file v → IsFileVerdict request file w → v ≡ w
  file_one (Err refused) is also = is ∙ sym also
  file_one (Ok file) is also = loaded_one (load_answer file) (table_in file) is also

request_one : (request : Option Request) (held : Held) (v w : Verdict) → IsRequestVerdict request held v → IsRequestVerdict request held w → v ≡ w
request_one None held v w is also = is ∙ sym also
request_one (Some request) held v w is also = file_one request v w (file_in MAX_PROGRAM request.target (file_at held request.target)) is also

pub verdicts_one : VerdictsAreOne
verdicts_one words held v other is also = request_one (request_in words) held v other is also
