-- What the words come to, and the file that is written.
use Rattle.std.proofs.Common.{◌≡◌, ℕ, ◌≤◌, ◌++◌, Bool, true, false, cond, nat_lt, length, List, [], Option, Some, None, IfSome, Result, Ok, Err, refl, sym, ap, subst, ◌∙◌, arith, codes, inl, inr}
use Rattle.std.specs.Global.{Vec}
use Rattle.coz_types.specs.Image.{ImageParts}
use Rattle.coz_types.specs.Labels.{Text}
use Rattle.coz_files.specs.Held.{Held, file_at}
use Rattle.coz_files.specs.Verdict.{Verdict, refusal}
use Rattle.coz_serve.specs.Serves.{HasVerdict}
use Rattle.program_load.specs.declared.fault.Fault.TheVariants.{File}
use Rattle.file_read.specs.Reading as reading
use Rattle.file_read.specs.Reading.{file_in, read_verdict}
use Rattle.file_read.specs.declared.fault.FileFault.{FileFault}
use Rattle.file_read.proofs.ReadBytes.{told_by}
use Rattle.elf_load.specs.declared.ElfFault.{ElfFault}
use Rattle.elf_load.specs.Loaded.{load_answer}
use Rattle.dwarf_lines.specs.declared.LineFault.{LineFault}
use Rattle.dwarf_lines.specs.Registers.{Table}
use Rattle.line_index.specs.Index.{Index, IsIndex}
use Rattle.line_remap.specs.Marks.{Mark, spelled_lines}
use Rattle.line_regions.specs.Regions.{Region, chosen_marks}
use Rattle.function_lines.specs.declared.file.FunctionsError.{FunctionsError}
use Rattle.function_lines.specs.declared.file.FunctionsError.TheVariants.{NoFunctions, NoLines, Much, Overlap}
use Rattle.function_lines.specs.declared.file.FunctionsError.TheVariants as errors
use Rattle.program_load.specs.LineTable.{table_in}
use Rattle.program_load.specs.Selection.{lines_named}
use Rattle.functions_cli.specs.declared.fault.Fault.TheVariants.{Step}
use Rattle.functions_cli.specs.Regions.{regions_named}
use Rattle.functions_cli.specs.Words.{Request, request_in}
use Rattle.functions_cli.specs.Verdict.{IsVerdict, IsRequestVerdict, IsFileVerdict, IsLoadedVerdict, IsKeptVerdict, IsRegionsVerdict, IsFunctionsVerdict, IsWritten, error_verdict}
use Rattle.functions_cli.specs.Answer.{Answer, verdict_of, fault_verdict, IsMemory, IsSettled}
use Rattle.functions_cli.specs.Serve.{ProgramHas}
use Rattle.functions_cli.specs.Program.{functions_program}

-- ---- the verdict of the words

module _ (words : List Text) (request : Request) (makes : Some request ≡ request_in words) where
  of_file : (held : Held) (v : Verdict) → IsFileVerdict request (file_in 33554432 request.target (file_at held request.target)) v → IsVerdict words held v
  of_file held v is = subst (λ (r : Option Request). IsRequestVerdict r held v) makes is

  -- what is known of the reading of the program's file
  abbrev pub ReadsFile : Option Held → ℕ → ℕ → Result (Vec ℕ) FileFault → Type 0
  ReadsFile told before now step =
      IfSome told (λ held. (reading.IsMemory step → ⊥) → (next : Text → Verdict) → reading.SettlesThen (λ file. next file.items) (read_verdict 33554432 request.target (file_at held request.target) next) before now step)

  pub unread : (told : Option Held) (before now : ℕ) (fault : FileFault) → ReadsFile told before now (Err fault)
      → IfSome told (λ held. (IsMemory (Err (Step (File fault))) → ⊥) → IsSettled words held before now (Err (Step (File fault))))
  unread None before now fault reads = tt
  unread (Some held) before now fault reads = λ other. elim (told_by (λ (file : Vec ℕ). file.items) 33554432 request.target (file_at held request.target) before now (Err fault) (reads other)) [
    | inl is ↦ inl (of_file held (fault_verdict (Step (File fault))) (subst (λ (r : Result Text Verdict). IsFileVerdict request r (fault_verdict (Step (File fault)))) is refl))
    | inr failed ↦ inr failed
  ]

  pub of_bytes : (told : Option Held) (before now : ℕ) (file : Vec ℕ) (answer : Answer) → ReadsFile told before now (Ok file)
      → ((IsMemory answer → ⊥) → IsLoadedVerdict request (load_answer file.items) (table_in file.items) (verdict_of answer))
      → IfSome told (λ held. (IsMemory answer → ⊥) → IsSettled words held before now answer)
  of_bytes None before now file answer reads is = tt
  of_bytes (Some held) before now file answer reads is = λ other. elim (told_by (λ (file : Vec ℕ). file.items) 33554432 request.target (file_at held request.target) before now (Ok file) (reads (λ no. no))) [
    | inl same ↦ inl (of_file held (verdict_of answer) (subst (λ (r : Result Text Verdict). IsFileVerdict request r (verdict_of answer)) same (is other)))
    | inr failed ↦ absurd failed.0
  ]

-- ---- the laws of what is written

abbrev status_in : Option Verdict → ℕ
status_in None = 0
status_in (Some v) = v.status

no_error : (target : Text) (error : FunctionsError) (v : Verdict) → error_verdict target error ≡ Some v → v.status ≡ 0 → ⊥
no_error target NoFunctions v is zero = let e : 14 ≡ v.status = ap status_in is in omega (arith, e, zero)
no_error target NoLines v is zero = let e : 14 ≡ v.status = ap status_in is in omega (arith, e, zero)
no_error target Overlap v is zero = let e : 14 ≡ v.status = ap status_in is in omega (arith, e, zero)
no_error target Much v is zero = let e : 8 ≡ v.status = ap status_in is in omega (arith, e, zero)
no_error target errors.Memory v is zero = let no : ⊥ = cc in no

refused_by : (n : ℕ) (line : Text) (v : Verdict) → v ≡ refusal n line → (n ≡ 0 → ⊥) → v.status ≡ 0 → ⊥
refused_by n line v is other zero = other (sym (ap (λ (w : Verdict). w.status) is) ∙ zero)

written_in : (target : Text) (image : ImageParts) (index : Index) (marks : List Mark) (v : Verdict) → IsFunctionsVerdict target image index marks v → v.status ≡ 0 → IsWritten image index marks v.text
written_in target image index marks v (inl one) zero = subst (λ (w : Verdict). IsWritten image index marks w.text) (sym one.2) one.1
written_in target image index marks v (inr one) zero = absurd (no_error target one.0 v one.2 zero)

module _ (words : List Text) (held : Held) where
  -- the text is the file that is written of the program that the words name
  abbrev pub Writes : Text → Type 0
  Writes text = ProgramHas words held (λ image index marks. IsWritten image index marks text)

  module _ (request : Request) (asked : request_in words ≡ Some request) (v : Verdict) (zero : v.status ≡ 0) where
    module _ (file : Text) (there : file_at held request.target ≡ Some file) where
      regions_has : (image : ImageParts) (table : Table) (index : Index) → load_answer file ≡ Ok image → table_in file ≡ Ok table → IsIndex table image.areas index → (kept : List ℕ) → lines_named index.lines [] request.keep ≡ Ok kept
          → (r : Result (List Region) Text) → regions_named (spelled_lines index) request.regions ≡ r → IsRegionsVerdict request image index kept r v → Writes v.text
      regions_has image table index loads reads indexed kept lines (Err piece) named is = absurd (refused_by 7 _ v is (λ e. omega (arith, e)) zero)
      regions_has image table index loads reads indexed kept lines (Ok regions) named is = (
        image,
        index,
        chosen_marks index kept regions,
        record { request = request; asked = asked; file = file; there = there; loads = loads; table = table; reads = reads; indexed = indexed; kept = kept; lines = lines; regions = regions; named = named; chosen = refl },
        written_in request.target image index (chosen_marks index kept regions) v is zero,
      )

      kept_has : (image : ImageParts) (table : Table) (index : Index) → load_answer file ≡ Ok image → table_in file ≡ Ok table → IsIndex table image.areas index
          → (r : Result (List ℕ) Text) → lines_named index.lines [] request.keep ≡ r → IsKeptVerdict request image index r v → Writes v.text
      kept_has image table index loads reads indexed (Err piece) named is = absurd (refused_by 7 _ v is (λ e. omega (arith, e)) zero)
      kept_has image table index loads reads indexed (Ok kept) named is = regions_has image table index loads reads indexed kept named (regions_named (spelled_lines index) request.regions) refl is

      loaded_has : (l : Result ImageParts ElfFault) (t : Result Table LineFault) → load_answer file ≡ l → table_in file ≡ t → IsLoadedVerdict request l t v → Writes v.text
      loaded_has (Err f) t loads reads is = absurd (refused_by 3 _ v is (λ e. omega (arith, e)) zero)
      loaded_has (Ok image) (Err f) loads reads is = absurd (refused_by 4 _ v is (λ e. omega (arith, e)) zero)
      loaded_has (Ok image) (Ok table) loads reads is = kept_has image table is.0 loads reads is.1 (lines_named (is.0).lines [] request.keep) refl is.2

      short_has : (long : Bool) (refused : Verdict) → (refused.status ≡ 0 → ⊥) → IsFileVerdict request (cond long (Err refused) (Ok file)) v → Writes v.text
      short_has true refused other is = absurd (other (sym (ap (λ (w : Verdict). w.status) is) ∙ zero))
      short_has false refused other is = loaded_has (load_answer file) (table_in file) refl refl is

    file_has : (o : Option Text) → file_at held request.target ≡ o → IsFileVerdict request (file_in 33554432 request.target o) v → Writes v.text
    file_has None there is = absurd (refused_by 5 _ v is (λ e. omega (arith, e)) zero)
    file_has (Some file) there is = short_has file there (nat_lt 33554432 (length file)) (refusal 8 (codes "long: " ++ request.target)) (λ e. omega (arith, e)) is

  words_has : (r : Option Request) (v : Verdict) → request_in words ≡ r → v.status ≡ 0 → IsRequestVerdict r held v → Writes v.text
  words_has None v asked zero is = absurd (refused_by 2 _ v is (λ e. omega (arith, e)) zero)
  words_has (Some request) v asked zero is = file_has request asked v zero (file_at held request.target) refl is

-- a verdict of status 0 is that of such a file
pub writes_of : (words : List Text) (held : Held) (v : Verdict) → IsVerdict words held v → v.status ≡ 0 → Writes words held v.text
writes_of words held v is zero = words_has words held (request_in words) v refl zero is

-- what holds of each file that is written holds of what is printed
pub writes_has : (words : List Text) (told : Option Held) (status : ℕ) (Prints : Text → Type 0) (P : ImageParts → Index → List Mark → Text → Type 0)
    → IfSome told (λ held. status ≤ 0 → HasVerdict (functions_program words) held (λ v. (status ≡ v.status) × Prints v.text))
    → ((image : ImageParts) (index : Index) (marks : List Mark) (text : Text) → IsWritten image index marks text → P image index marks text)
    → IfSome told (λ held. status ≡ 0 → ProgramHas words held (λ image index marks. (written : Text) × Prints written × P image index marks written))
writes_has words None status Prints P text each = tt
writes_has words (Some held) status Prints P text each = λ zero.
    let v = text (omega (arith, zero)) in
    let w = writes_of words held v.0 v.1 (sym v.2.0 ∙ zero) in
    (w.0, w.1, w.2, w.3, (v.0.text, v.2.1, each w.0 w.1 w.2 v.0.text w.4))

-- and so do two facts
pub writes_both : (words : List Text) (told : Option Held) (status : ℕ) (Prints : Text → Type 0) (P : ImageParts → Index → List Mark → Text → Type 0) (Q : Text → Type 0)
    → IfSome told (λ held. status ≤ 0 → HasVerdict (functions_program words) held (λ v. (status ≡ v.status) × Prints v.text))
    → ((image : ImageParts) (index : Index) (marks : List Mark) (text : Text) → IsWritten image index marks text → P image index marks text)
    → ((image : ImageParts) (index : Index) (marks : List Mark) (text : Text) → IsWritten image index marks text → Q text)
    → IfSome told (λ held. status ≡ 0 → ProgramHas words held (λ image index marks. (written : Text) × Prints written × P image index marks written × Q written))
writes_both words None status Prints P Q text each all = tt
writes_both words (Some held) status Prints P Q text each all = λ zero.
    let v = text (omega (arith, zero)) in
    let w = writes_of words held v.0 v.1 (sym v.2.0 ∙ zero) in
    (w.0, w.1, w.2, w.3, (v.0.text, v.2.1, each w.0 w.1 w.2 v.0.text w.4, all w.0 w.1 w.2 v.0.text w.4))
