-- What a program and its file come to.
use Rattle.std.proofs.Common.{◌≡◌, ◌≢◌, ℕ, List, [], Option, Some, None, Result, Ok, Err, refl, sym, ap, ◌∙◌, subst, arith}
use Rattle.coz_types.specs.Image.{ImageParts}
use Rattle.coz_types.specs.Labels.{Text}
use Rattle.coz_files.specs.Verdict.{Verdict, refusal, text_verdict}
use Rattle.file_read.specs.declared.fault.FileFault.TheVariants.{Usage, Read, Write, Long, Memory}
use Rattle.program_load.specs.declared.fault.Fault.{Fault as StepFault}
use Rattle.program_load.specs.declared.fault.Fault.TheVariants.{File, Program, Lines, NoLine, ManyPoints, ManyExperiments, Source, Profile}
use Rattle.program_load.specs.Answer as steps
use Rattle.program_load.specs.LineTable.{table_in}
use Rattle.program_load.specs.Verdict.{loaded_verdict, named_verdict, table_verdict}
use Rattle.program_load.proofs.Loads.{loaded_file}
use Rattle.elf_load.specs.declared.ElfFault.{ElfFault}
use Rattle.elf_load.specs.Faults.{fault}
use Rattle.elf_load.specs.Loaded.{image, load_answer}
use Rattle.dwarf_lines.specs.declared.LineFault.{LineFault}
use Rattle.dwarf_lines.specs.Registers.{Table}
use Rattle.line_index.specs.Index.{Index}
use Rattle.functions_cli.specs.declared.fault.Fault.TheVariants.{Step}
use Rattle.functions_cli.specs.Words.{Request}
use Rattle.functions_cli.specs.Answer.{IsOfProgram}
use Rattle.functions_cli.specs.Verdict.{IsKeptVerdict, IsLoadedVerdict, IsIndexedVerdict}

-- ---- a program that was loaded

abbrev loaded_by : List ℕ → Option ElfFault → Result ImageParts ElfFault
loaded_by file None = Ok (image file)
loaded_by file (Some f) = Err f

faultless_by : (file : List ℕ) (found : Option ElfFault) (parts : ImageParts) → loaded_by file found ≡ Ok parts → found ≡ None
faultless_by file None parts is = refl
faultless_by file (Some f) parts is = let no : ⊥ = cc in absurd no

faultless_file : (file : List ℕ) (parts : ImageParts) → load_answer file ≡ Ok parts → fault file ≡ None
unfolding load_answer
faultless_file file parts is = faultless_by file (fault file) parts is

pub faultless : (file : List ℕ) (parts : ImageParts) → load_answer file ≡ Ok parts → fault parts.file ≡ None
faultless file parts is = subst (λ (f : List ℕ). fault f ≡ None) (loaded_file file parts is) (faultless_file file parts is)

-- ---- which faults a step may have

-- no fault of the words, of a length or of the output
pub record IsLater (status : ℕ) : Type 0 where
  no_usage : status ≢ 2
  no_write : status ≢ 6
  no_length : status ≢ 8

later : (status n : ℕ) → status ≡ n → n ≢ 2 → n ≢ 6 → n ≢ 8 → IsLater status
later status n is two six eight = record { no_usage = λ e. two (sym is ∙ e); no_write = λ e. six (sym is ∙ e); no_length = λ e. eight (sym is ∙ e) }

pub step_of : (request : Request) (fault : StepFault) → (steps.IsReadFault fault → ⊥) → ((steps.IsMemoryFault fault → ⊥) → IsLater (steps.fault_status fault)) → IsOfProgram request (Step fault)
step_of request (File Usage) no_read is = (is (λ no. no)).no_usage refl
step_of request (File (Read p)) no_read is = no_read tt
step_of request (File Write) no_read is = (is (λ no. no)).no_write refl
step_of request (File (Long p)) no_read is = absurd ((is (λ no. no)).no_length refl)
step_of request (File Memory) no_read is = tt
step_of request (Program f) no_read is = tt
step_of request (Lines f) no_read is = tt
step_of request (NoLine p) no_read is = tt
step_of request (ManyPoints n) no_read is = tt
step_of request (ManyExperiments n) no_read is = tt
step_of request (Source f) no_read is = tt
step_of request (Profile f) no_read is = tt

-- two verdicts are not one
differ : (v : Verdict) → v ≡ refusal 0 [] → v ≡ refusal 1 [] → ⊥
differ v zero one =
    let e0 : v.status ≡ 0 = ap (λ (w : Verdict). w.status) zero in
    let e1 : v.status ≡ 1 = ap (λ (w : Verdict). w.status) one in
    omega (arith, e0, e1)

-- ---- the lines that are kept

module _ (request : Request) (image : ImageParts) (index : Index) where
  pub named_fault : (r : Result (List ℕ) Text) (v : Verdict) → ((next : List ℕ → Verdict) → v ≡ named_verdict r next) → IsKeptVerdict request image index r v
  named_fault (Err piece) v is = is (λ _. refusal 0 [])
  named_fault (Ok kept) v is = absurd (differ v (is (λ _. refusal 0 [])) (is (λ _. refusal 1 [])))

pub named_later : (r : Result (List ℕ) Text) (v : Verdict) → ((next : List ℕ → Verdict) → v ≡ named_verdict r next) → IsLater v.status
named_later (Err piece) v is = later v.status 7 (ap (λ (w : Verdict). w.status) (is (λ _. refusal 0 []))) (λ e. omega (arith, e)) (λ e. omega (arith, e)) (λ e. omega (arith, e))
named_later (Ok kept) v is = absurd (differ v (is (λ _. refusal 0 [])) (is (λ _. refusal 1 [])))

abbrev ok : List ℕ → Result (List ℕ) Text
ok ks = Ok ks

pub named_ok : (r : Result (List ℕ) Text) (ks : List ℕ) → ((next : List ℕ → Verdict) → next ks ≡ named_verdict r next) → r ≡ Ok ks
named_ok (Err piece) ks is = let e : 0 ≡ 7 = ap (λ (w : Verdict). w.status) (is text_verdict) in absurd (omega (arith, e))
named_ok (Ok found) ks is = ap (λ (w : Verdict). ok w.text) (sym (is text_verdict))

-- ---- the program

module _ (request : Request) where
  pub loaded_fault : (l : Result ImageParts ElfFault) (t : Result Table LineFault) (v : Verdict) → ((next : ImageParts → Table → Verdict) → v ≡ loaded_verdict l (λ image. table_verdict t (next image))) → IsLoadedVerdict request l t v
  loaded_fault (Err f) t v is = is (λ _ _. refusal 0 [])
  loaded_fault (Ok image) (Err f) v is = is (λ _ _. refusal 0 [])
  loaded_fault (Ok image) (Ok table) v is = absurd (differ v (is (λ _ _. refusal 0 [])) (is (λ _ _. refusal 1 [])))

  pub of_indexed : (file : List ℕ) (image : ImageParts) (table : Table) (v : Verdict) → load_answer file ≡ Ok image → table_in file ≡ Ok table → IsIndexedVerdict request image table v → IsLoadedVerdict request (load_answer file) (table_in file) v
  of_indexed file image table v loads reads is =
      subst (λ (l : Result ImageParts ElfFault). IsLoadedVerdict request l (table_in file) v) (sym loads)
      (subst (λ (t : Result Table LineFault). IsLoadedVerdict request (Ok image) t v) (sym reads) is)

pub loaded_later : (l : Result ImageParts ElfFault) (t : Result Table LineFault) (v : Verdict) → ((next : ImageParts → Table → Verdict) → v ≡ loaded_verdict l (λ image. table_verdict t (next image))) → IsLater v.status
loaded_later (Err f) t v is = later v.status 3 (ap (λ (w : Verdict). w.status) (is (λ _ _. refusal 0 []))) (λ e. omega (arith, e)) (λ e. omega (arith, e)) (λ e. omega (arith, e))
loaded_later (Ok image) (Err f) v is = later v.status 4 (ap (λ (w : Verdict). w.status) (is (λ _ _. refusal 0 []))) (λ e. omega (arith, e)) (λ e. omega (arith, e)) (λ e. omega (arith, e))
loaded_later (Ok image) (Ok table) v is = absurd (differ v (is (λ _ _. refusal 0 [])) (is (λ _ _. refusal 1 [])))
