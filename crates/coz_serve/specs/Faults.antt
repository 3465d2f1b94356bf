-- What the faults of a program have in common.
use Rattle.std.specs.Prelude.{◌≡◌, ◌≢◌, ℕ, ◌≤◌, List, Option, Some, None}
use Rattle.file_read.specs.declared.fault.FileFault.{FileFault}
use Rattle.file_read.specs.Faults.{file_status, file_line}

-- a status that no fault has which each program may have
pub record IsOwn (status : ℕ) : Type 0 where
  pub no_text : 2 ≤ status
  pub no_usage : status ≢ 2
  pub no_read : status ≢ 5
  pub no_write : status ≢ 6
  pub no_memory : status ≢ 10

-- the status and the line of a fault: those of the shared one, if it is one, or a status of its own
abbrev pub IsFaultOf : Option FileFault → ℕ → List ℕ → Type 0
IsFaultOf (Some shared) status line = (status ≡ file_status shared) × (line ≡ file_line shared)
IsFaultOf None status line = IsOwn status

abbrev pub IsFault : ℕ → Option FileFault → ℕ → List ℕ → Type 0
IsFault greatest shared status line = (status ≤ greatest) × IsFaultOf shared status line
