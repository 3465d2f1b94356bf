-- Which statuses the verdict of a request that runs a program has, and so which faults.
use Rattle.std.proofs.Common.{◌≡◌, ◌≢◌, ℕ, ◌≤◌, List, [], length, Bool, true, false, cond, nat_lt, Result, Ok, Err, ◌⊎◌, inl, inr, refl, sym, ap, ◌∙◌, arith}
use Rattle.elf_load.specs.declared.ElfFault.{ElfFault}
use Rattle.elf_load.specs.Loaded.{load_answer}
use Rattle.dwarf_lines.specs.declared.LineFault.{LineFault}
use Rattle.dwarf_lines.specs.Registers.{Table}
use Rattle.coz_types.specs.Image.{ImageParts}
use Rattle.coz_words.specs.Said.{Text}
use Rattle.coz_words.specs.declared.request.Request.{Request}
use Rattle.file_read.specs.declared.fault.FileFault.TheVariants.{Usage, Read, Write, Long, Memory}
use Rattle.program_load.specs.declared.fault.Fault.{Fault}
use Rattle.program_load.specs.declared.fault.Fault.TheVariants.{File, Program, Lines, NoLine, ManyPoints, ManyExperiments, Source, Profile}
use Rattle.program_load.specs.LineTable.{table_in}
use Rattle.program_load.specs.Answer.{IsMemoryFault, IsReadFault, fault_verdict}
use Rattle.program_load.specs.Verdict.{Verdict, loaded_verdict, named_verdict, points_verdict, program_verdict, table_verdict}
use Rattle.run_inputs.specs.Answer.{IsOfRequest}

-- the status is a run's, or one of the refusals after the reading, with a line
pub record Refuses (v : Verdict) : Type 0 where
  pub high : 3 ≤ v.status
  pub no_write : v.status ≢ 6
  pub no_length : v.status ≢ 8
  pub told : v.line ≢ []

abbrev pub Judged : Verdict → Type 0
Judged v = (v.status ≤ 1) ⊎ Refuses v

pub low : (b : Bool) → cond b 0 1 ≤ 1
low true = omega arith
low false = omega arith

-- ---- one step after the other

pub judged_if : (many : Bool) (refusal next : Verdict) → Refuses refusal → Judged next → Judged (cond many refusal next)
judged_if true refusal next refused judged = inr refused
judged_if false refusal next refused judged = judged

pub judged_named : {A : Type 0} (r : Result A Text) (next : A → Verdict) → ((a : A) → Judged (next a)) → Judged (named_verdict r next)
judged_named (Err piece) next each = inr (record { high = omega arith; no_write = λ is. omega (arith, is); no_length = λ is. omega (arith, is); told = λ is. absurd cc })
judged_named (Ok a) next each = each a

pub judged_points : (points : List ℕ) (next : List ℕ → Verdict) → ((ps : List ℕ) → Judged (next ps)) → Judged (points_verdict points next)
judged_points points next each =
    judged_if (nat_lt 64 (length points)) _ (next points)
    (record { high = omega arith; no_write = λ is. omega (arith, is); no_length = λ is. omega (arith, is); told = λ is. absurd cc })
    (each points)

judged_table : (t : Result Table LineFault) (next : Table → Verdict) → ((table : Table) → Judged (next table)) → Judged (table_verdict t next)
judged_table (Err fault) next each = inr (record { high = omega arith; no_write = λ is. omega (arith, is); no_length = λ is. omega (arith, is); told = λ is. absurd cc })
judged_table (Ok table) next each = each table

judged_loaded : (l : Result ImageParts ElfFault) (next : ImageParts → Verdict) → ((image : ImageParts) → Judged (next image)) → Judged (loaded_verdict l next)
judged_loaded (Err fault) next each = inr (record { high = omega arith; no_write = λ is. omega (arith, is); no_length = λ is. omega (arith, is); told = λ is. absurd cc })
judged_loaded (Ok image) next each = each image

pub judged_program : (file : List ℕ) (next : ImageParts → Table → Verdict) → ((image : ImageParts) (table : Table) → Judged (next image table)) → Judged (program_verdict file next)
judged_program file next each =
    judged_loaded (load_answer file) _ (λ image.
    judged_table (table_in file) _ (λ table.
    each image table))

-- ---- faults

module _ (asked : Request) (v : Verdict) (judged : Judged v) where
  status_is : (w : Verdict) → w ≡ v → w.status ≡ v.status
  status_is w same = ap (λ (u : Verdict). u.status) same

  apart : (n : ℕ) → n ≡ v.status → (n ≡ 2) ⊎ (n ≡ 6) ⊎ (n ≡ 8) → Judged v → ⊥
  apart n is which (inl few) = elim which [ inl two ↦ omega (arith, is, two, few) | inr more ↦ elim more [ inl six ↦ omega (arith, is, six, few) | inr eight ↦ omega (arith, is, eight, few) ] ]
  apart n is which (inr refused) = elim which [ inl two ↦ omega (arith, is, two, refused.high) | inr more ↦ elim more [ inl six ↦ refused.no_write (sym is ∙ six) | inr eight ↦ refused.no_length (sym is ∙ eight) ] ]

  -- a fault whose verdict this is, or that is out of memory
  pub fault_of_request : (fault : Fault) → (IsReadFault fault → ⊥) → ((IsMemoryFault fault → ⊥) → fault_verdict fault ≡ v) → IsOfRequest asked fault
  fault_of_request (File Usage) no_read settled = apart 2 (status_is _ (settled (λ no. no))) (inl refl) judged
  fault_of_request (Program fault) no_read settled = tt
  fault_of_request (Lines fault) no_read settled = tt
  fault_of_request (File (Read path)) no_read settled = absurd (no_read tt)
  fault_of_request (File Write) no_read settled = apart 6 (status_is _ (settled (λ no. no))) (inr (inl refl)) judged
  fault_of_request (NoLine piece) no_read settled = tt
  fault_of_request (ManyPoints count) no_read settled = tt
  fault_of_request (File (Long path)) no_read settled = absurd (apart 8 (status_is _ (settled (λ no. no))) (inr (inr refl)) judged)
  fault_of_request (ManyExperiments count) no_read settled = tt
  fault_of_request (File Memory) no_read settled = tt
  fault_of_request (Source fault) no_read settled = tt
  fault_of_request (Profile fault) no_read settled = tt
