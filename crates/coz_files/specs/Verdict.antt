-- What a program's arguments give: a status, a text for the output and a line for the errors.
use Rattle.std.specs.Prelude.{◌≡◌, ℕ, ◌≢◌, ◌⊎◌, List, [], map, Result, Ok, Err, IsErrAnd, string_bytes}
use Rattle.std.specs.declared.string.String.{String}
use Rattle.std.specs.declared.alloc.Global.{Global}
use Rattle.coz_files.specs.Faults.{Rose}

-- the words as bytes
abbrev pub bytes_of : List (String Global) → List (List ℕ)
bytes_of words = map string_bytes words

pub record Verdict : Type 0 where
  pub status : ℕ
  pub text : List ℕ
  pub line : List ℕ

abbrev pub refusal : ℕ → List ℕ → Verdict
refusal status line = record { status = status; text = []; line = line }

-- all is printed, and nothing was run
abbrev pub text_verdict : List ℕ → Verdict
text_verdict text = record { status = 0; text = text; line = [] }

-- the verdict of a step that came to a value or a fault, and of what follows the value
abbrev pub step_verdict : {A F : Type 0} → (F → Verdict) → Result A F → (A → Verdict) → Verdict
step_verdict fault_verdict (Ok value) next = next value
step_verdict fault_verdict (Err fault) next = fault_verdict fault

-- a step, and what follows it, is this verdict's, or it is a read that failed with a counted fault
abbrev pub StepSettles : {A F : Type 0} → (F → Verdict) → (F → Type 0) → (A → Verdict) → Verdict
    → ℕ → ℕ → Result A F → Type 0
StepSettles fault_verdict IsReadFault next verdict before now step =
    (step_verdict fault_verdict step next ≡ verdict)
    ⊎ (IsErrAnd step IsReadFault × Rose before now)

-- a status whose cause is neither a counted fault nor a lack of memory
pub record IsOfVerdict (status : ℕ) : Type 0 where
  pub no_read : status ≢ 5
  pub no_write : status ≢ 6
  pub no_memory : status ≢ 10
