-- What is written of an answer: what a program prints, or the line of its fault.
use Rattle.std.specs.Prelude.{◌≡◌, ◌⊎◌, ◌++◌, ℕ, List, [], codes, Option, Result, Ok, Err}
use Rattle.std.specs.Io.KnownBytes.{Appends}
use Rattle.coz_files.specs.Faults.{Rose}
use Rattle.coz_files.specs.Puts.{AppendsPrefix, IsPut}
use Rattle.coz_files.specs.Verdict.{Verdict, refusal}

-- the verdicts of what is printed and of a fault
abbrev pub shown_by : {A : Type 0} → (A → ℕ) → (A → List ℕ) → A → Verdict
shown_by status text printed = record { status = status printed; text = text printed; line = [] }

abbrev pub refused_by : {L : Type 0} → (L → ℕ) → (L → List ℕ) → L → Verdict
refused_by status line fault = refusal (status fault) (line fault)

module _ {O E : Type 0} (name : List ℕ) (holds : O → Option (List ℕ)) (faults : O → ℕ) (old new : O)
    (err_holds : E → Option (List ℕ)) (err_faults : E → ℕ) (err_old err_new : E) (status : ℕ) where
  -- a line on the error sink: the program's name, and a text
  abbrev pub PutsLine : List ℕ → Type 0
  PutsLine text =
      IsPut err_holds err_faults err_old err_new (name ++ codes ": " ++ text ++ codes "\n")

  -- all of a text was written, and nothing else
  pub record IsDone (v : Verdict) : Type 0 where
    pub same_status : status ≡ v.status
    pub appends : Appends (holds old) (holds new) v.text
    pub no_fault : faults new ≡ faults old
    pub no_error_line : err_new ≡ err_old

  -- a put of the text failed, and the line says so
  pub record IsCut (v : Verdict) : Type 0 where
    pub six : status ≡ 6
    pub prefix : AppendsPrefix (holds old) (holds new) v.text
    pub rose : Rose (faults old) (faults new)
    pub line : PutsLine (codes "write")

  -- the line of a fault, and nothing else
  pub record IsRefused (v : Verdict) : Type 0 where
    pub same_status : status ≡ v.status
    pub same : new ≡ old
    pub line : PutsLine v.line

  abbrev pub IsWritten : {A L : Type 0} → (A → Verdict) → (L → Verdict) → Result A L → Type 0
  IsWritten shown refused (Ok printed) = IsDone (shown printed) ⊎ IsCut (shown printed)
  IsWritten shown refused (Err fault) = IsRefused (refused fault)
