-- What is known of an answer before it is written.
use Rattle.std.specs.Prelude.{ℕ, ◌≤◌, List, [], ◌++◌, Result, Ok, Err}
use Rattle.command_texts.specs.Printed.{text_bytes}
pub use Rattle.program_load.specs.Answer.{fault_status, fault_line, fault_verdict, verdict_after, IsReadFault, FailedToRead, IsMemoryFault, IsMemory, SettlesThen}
use Rattle.program_load.specs.Verdict.{Verdict}
use Rattle.program_load.specs.declared.fault.Fault.{Fault}
pub use Rattle.run_inputs.specs.Answer.{Names, IsOfRequest}
use Rattle.coz_words.specs.declared.request.Request.{Request}
use Rattle.timing_line.specs.Line.{timing_text}
use Rattle.gain_cli.specs.declared.gain.Gain.{Gain}

-- what is printed, and the status beside it
abbrev pub text_in : Gain → List ℕ
text_in gain = timing_text gain.timing ++ text_bytes gain.profile.text

abbrev pub status_in : Gain → ℕ
status_in gain = gain.profile.status

abbrev pub verdict_in : Gain → Verdict
verdict_in gain = record { status = status_in gain; text = text_in gain; line = [] }

-- what is to be printed, or why nothing is
abbrev pub Answer : Type 0
Answer = Result Gain Fault

-- which answers a request may have
abbrev pub Suits : Request → Answer → Type 0
Suits asked (Ok gain) = status_in gain ≤ 1
Suits asked (Err fault) = IsOfRequest asked fault

-- an answer is this verdict's, or that of a read that failed with a counted fault
abbrev pub Settles : Verdict → ℕ → ℕ → Answer → Type 0
Settles verdict before now answer = SettlesThen verdict_in verdict before now answer
