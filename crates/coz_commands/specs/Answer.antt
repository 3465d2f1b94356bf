-- What is known of an answer before it is written.
use Rattle.std.specs.Prelude.{◌≡◌, ℕ, ◌≤◌, Result, Ok, Err, IfOk, IfErr}
use Rattle.command_texts.specs.declared.printed.Printed.{Printed}
pub use Rattle.command_texts.specs.Printed.{text_bytes, printed_verdict}
pub use Rattle.program_load.specs.Answer.{fault_status, fault_line, fault_verdict, verdict_after, IsReadFault, FailedToRead, IsMemoryFault, IsMemory, SettlesThen}
use Rattle.program_load.specs.declared.fault.Fault.{Fault}
pub use Rattle.run_inputs.specs.Answer.{Names, IsOfRequest}
use Rattle.coz_words.specs.declared.request.Request.{Request}
use Rattle.coz_commands.specs.Verdict.{Verdict}

-- a text with its status, or why nothing is printed
abbrev pub Answer : Type 0
Answer = Result Printed Fault

-- the verdict of an answer
abbrev pub verdict_of : Answer → Verdict
verdict_of answer = verdict_after answer printed_verdict

-- which answers a request may have
abbrev pub Suits : Request → Answer → Type 0
Suits asked (Ok printed) = printed.status ≤ 1
Suits asked (Err fault) = IsOfRequest asked fault

-- an answer is this verdict's, or that of a read that failed with a counted fault
abbrev pub Settles : Verdict → ℕ → ℕ → Answer → Type 0
Settles verdict before now answer = SettlesThen printed_verdict verdict before now answer

-- an answer of a trial: its verdict's, or out of memory
pub record IsOfTrial (v : Verdict) (answer : Answer) : Type 0 where
  pub verdict : IfOk answer (λ p. printed_verdict p ≡ v)
  pub low : IfOk answer (λ p. p.status ≤ 1)
  pub memory : IfErr answer IsMemoryFault
