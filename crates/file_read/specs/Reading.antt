-- The file of a path, or the verdict if it can't be read or is too long.
use Rattle.std.specs.Prelude.{◌≡◌, ℕ, List, ◌++◌, length, nat_lt, codes, Option, None, Some, Result, Ok, Err, IsErrAnd, if◌then◌else◌}
use Rattle.coz_files.specs.Verdict.{Verdict, StepSettles, step_verdict, refusal}
use Rattle.file_read.specs.declared.fault.FileFault.{FileFault}
use Rattle.file_read.specs.declared.fault.FileFault.TheVariants.{Read, Long, Memory}
use Rattle.file_read.specs.Faults.{file_refusal}

-- the bytes of the file of a path, if it is there and has at most `most`, or the refusal
abbrev pub file_in : ℕ → List ℕ → Option (List ℕ) → Result (List ℕ) Verdict
file_in most path None = Err (refusal 5 (codes "read: " ++ path))
file_in most path (Some file) =
    if nat_lt most (length file) then Err (refusal 8 (codes "long: " ++ path)) else Ok file

-- the verdict of the file of a path, and of what follows its bytes
abbrev pub read_verdict : ℕ → List ℕ → Option (List ℕ) → (List ℕ → Verdict) → Verdict
read_verdict most path file next = step_verdict (λ refused. refused) (file_in most path file) next

abbrev pub IsReadFault : FileFault → Type 0
IsReadFault (Read path) = Unit {0}
IsReadFault _ = ⊥

abbrev pub FailedToRead : {A : Type 0} → Result A FileFault → Type 0
FailedToRead step = IsErrAnd step IsReadFault

abbrev pub IsMemoryFault : FileFault → Type 0
IsMemoryFault Memory = Unit {0}
IsMemoryFault _ = ⊥

abbrev pub IsMemory : {A : Type 0} → Result A FileFault → Type 0
IsMemory step = IsErrAnd step IsMemoryFault

-- a step, and what follows it, settles on this verdict
abbrev pub SettlesThen : {A : Type 0} → (A → Verdict) → Verdict → ℕ → ℕ → Result A FileFault → Type 0
SettlesThen next verdict before now step =
    StepSettles file_refusal IsReadFault next verdict before now step

-- the faults that the reading of a path's file may have
abbrev pub IsOfPath : List ℕ → FileFault → Type 0
IsOfPath path (Read p) = p.now ≡ path
IsOfPath path (Long p) = p.now ≡ path
IsOfPath path Memory = Unit {0}
IsOfPath path _ = ⊥
