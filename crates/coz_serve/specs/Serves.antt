-- What each program promises of its words: read `Serves`, by the program's name, its verdict and
-- its greatest status.
use Rattle.std.specs.Prelude.{◌≡◌, ◌≢◌, ◌⊎◌, ◌++◌, ◌≤◌, ◌<◌, ℕ, List, codes, Option, Some, None, Result, Ok, Err, IfOk, IfErr, IfSome, IfNone, IsErrAnd, IsSomeAnd}
use Rattle.std.specs.Io.KnownBytes.{Appends}
use Rattle.coz_files.specs.Faults.{Rose}
use Rattle.coz_files.specs.Held.{Held}
use Rattle.coz_files.specs.Puts.{AppendsPrefix, IsPut}
use Rattle.coz_files.specs.Verdict.{Verdict, IsOfVerdict}
use Rattle.file_read.specs.declared.fault.FileFault.{FileFault}
use Rattle.file_read.specs.declared.fault.FileFault.TheVariants.{Usage, Read, Write, Memory}
use Rattle.file_read.specs.Reading as reading

-- a program, with the words that it is given
pub record Program : Type 1 where
  -- the program's name
  pub name : List ℕ
  -- the words make no request
  pub HasNone : Type 0
  -- a path that the words name
  pub Names : List ℕ → Type 0
  -- what the words come to, with the files that the paths hold
  pub IsVerdict : Held → Verdict → Type 0
  -- the greatest status of a text that is written, and of all
  pub last : ℕ
  pub greatest : ℕ

-- the words come to a verdict of which this holds
abbrev pub HasVerdict : Program → Held → (Verdict → Type 0) → Type 0
HasVerdict p held P = (v : Verdict) × p.IsVerdict held v × P v

-- a line: the program's name, and a text
abbrev pub line_of : Program → List ℕ → List ℕ
line_of p text = p.name ++ codes ": " ++ text

-- what is known of the line of a status
pub record IsLine (p : Program) (status : ℕ) (told : Option Held) (before now : ℕ) (line : List ℕ)
    : Type 0 where
  pub usage : status ≡ 2 → line ≡ line_of p (codes "usage")
  pub write : status ≡ 6 → line ≡ line_of p (codes "write")
  pub memory : status ≡ 10 → line ≡ line_of p (codes "memory")
  -- a path that the words name
  pub read : status ≡ 5
      → (path : List ℕ) × p.Names path × (line ≡ line_of p (codes "read: " ++ path))
  -- if no fault was counted, it is the path that has no file
  pub absent : status ≡ 5
      → Rose before now
      ⊎ IsSomeAnd told (λ held. HasVerdict p held (λ v. line ≡ line_of p v.line))
  pub verdict : IsOfVerdict status
      → IfSome told (λ held. HasVerdict p held (λ v. (status ≡ v.status) × (line ≡ line_of p v.line)))

-- What a program leaves, which returns this status. `told` are the files, if they are known, and
-- `before` and `now` the counts of reads that failed.
pub record Serves {O E : Type 0} (p : Program) (told : Option Held) (before now : ℕ)
    (holds : O → Option (List ℕ)) (faults : O → ℕ) (old new : O)
    (err_holds : E → Option (List ℕ)) (err_faults : E → ℕ) (err_old err_new : E) (status : ℕ)
    : Type 0 where
  -- the words alone decide on usage, unless it is out of memory
  pub usage : status ≡ 2 → p.HasNone
  pub no_request : p.HasNone → (status ≡ 2) ⊎ (status ≡ 10)
  -- no other status is answered
  pub known : status ≤ p.greatest
  -- if the files are known, the status is the verdict's, unless a fault is counted or it is out of
  -- memory
  pub verdict : IfSome told (λ held.
      IsOfVerdict status → HasVerdict p held (λ v. status ≡ v.status))
  -- a failed read and a failed write have a cause outside
  pub read : status ≡ 5
      → Rose before now ⊎ IsSomeAnd told (λ held. HasVerdict p held (λ v. v.status ≡ 5))
  pub write : status ≡ 6 → Rose (faults old) (faults new)
  pub write_last : IfSome told (λ held. status ≡ 6 → HasVerdict p held (λ v. v.status ≤ p.last))
  -- if no fault was counted and memory sufficed, the status is the verdict's
  pub complete : IfSome told (λ held.
      (Rose before now → ⊥) → (Rose (faults old) (faults new) → ⊥) → status ≢ 10
      → HasVerdict p held (λ v. status ≡ v.status))
  -- what is printed
  pub text : IfSome told (λ held. status ≤ p.last
      → HasVerdict p held (λ v. (status ≡ v.status) × Appends (holds old) (holds new) v.text))
  pub prefix : IfSome told (λ held. status ≡ 6
      → HasVerdict p held (λ v. AppendsPrefix (holds old) (holds new) v.text))
  pub nothing : p.last < status → status ≢ 6 → holds new ≡ holds old
  -- the line on the error sink
  pub no_error_line : status ≤ p.last → err_new ≡ err_old
  pub line : p.last < status
      → (line : List ℕ) × IsLine p status told before now line
      × IsPut err_holds err_faults err_old err_new (line ++ codes "\n")
  -- the first fault ends the call
  pub read_count : status ≢ 5 → now ≡ before
  pub write_count : status ≢ 6 → faults new ≡ faults old

-- ---- what is known of an answer before it is written

-- an answer, by the verdict of what is printed, or by the status and the line of the fault
abbrev pub answer_verdict : {A L : Type 0} → (A → Verdict) → (L → Verdict) → Result A L → Verdict
answer_verdict shown refused (Ok printed) = shown printed
answer_verdict shown refused (Err fault) = refused fault

abbrev pub FailedToRead : {A L : Type 0} → (L → Option FileFault) → Result A L → Type 0
FailedToRead shared answer = IsErrAnd answer (λ fault. IsSomeAnd (shared fault) reading.IsReadFault)

abbrev pub IsMemory : {A L : Type 0} → (L → Option FileFault) → Result A L → Type 0
IsMemory shared answer = IsErrAnd answer (λ fault. IsSomeAnd (shared fault) reading.IsMemoryFault)

-- an answer is what the words come to
pub record Judges {A L : Type 0} (p : Program) (shown : A → Verdict) (refused : L → Verdict)
    (shared : L → Option FileFault) (told : Option Held) (before now : ℕ) (answer : Result A L)
    : Type 0 where
  pub usage : IsErrAnd answer (λ fault. shared fault ≡ Some Usage) → p.HasNone
  pub no_request : p.HasNone
      → IsErrAnd answer (λ fault. (shared fault ≡ Some Usage) ⊎ (shared fault ≡ Some Memory))
  pub named : IfErr answer (λ fault. (path : _) → shared fault ≡ Some (Read path) → p.Names path.now)
  pub no_write : IfErr answer (λ fault. shared fault ≢ Some Write)
  pub low : IfOk answer (λ printed. (shown printed).status ≤ p.last)
  pub verdict : IfSome told (λ held. (IsMemory shared answer → ⊥)
      → p.IsVerdict held (answer_verdict shown refused answer)
      ⊎ (FailedToRead shared answer × Rose before now))
  pub read_fault_has_cause : FailedToRead shared answer → IfNone told (Rose before now)
  pub no_fault : (FailedToRead shared answer → ⊥) → now ≡ before
