-- A program's file that could not be read.
use Rattle.std.proofs.Common.{◌≡◌, ℕ, List, Option, Some, None, IfSome, ◌⊎◌, subst}
use Rattle.coz_files.specs.Faults.{Rose}
use Rattle.coz_files.specs.Held.{Held, file_at}
use Rattle.coz_words.specs.declared.request.Request.{Request}
use Rattle.file_read.specs.Reading.{read_verdict}
use Rattle.program_load.specs.declared.fault.Fault.{Fault}
use Rattle.program_load.specs.Answer.{IsMemoryFault, IsReadFault, fault_verdict}
use Rattle.program_load.specs.Verdict.{Verdict}
use Rattle.run_inputs.specs.Verdict.{bytes_verdict, input_verdict}

pub first_read : (told : Option Held) (asked : Request) (path : List ℕ) (before now : ℕ) (fault : Fault) → path ≡ asked.target
    → IfSome told (λ held. (IsMemoryFault fault → ⊥) → (rest : List ℕ → Verdict) →
    (fault_verdict fault ≡ read_verdict 33554432 path (file_at held path) rest) ⊎ (IsReadFault fault × Rose before now))
    → IfSome told (λ held. (IsMemoryFault fault → ⊥) → (next : List ℕ → List ℕ → Verdict) → (fault_verdict fault ≡ bytes_verdict asked held next) ⊎ (IsReadFault fault × Rose before now))
first_read None asked path before now fault same is = tt
first_read (Some held) asked path before now fault same is = λ other next.
    let rest : List ℕ → Verdict = λ file. input_verdict asked.input held (next file) in
    subst (λ (p : List ℕ). (fault_verdict fault ≡ read_verdict 33554432 p (file_at held p) rest) ⊎ (IsReadFault fault × Rose before now)) same (is other rest)
