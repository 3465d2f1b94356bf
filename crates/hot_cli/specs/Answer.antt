-- What is known of an answer before it is written.
use Rattle.std.specs.Prelude.{ℕ, List, Result, Ok, Err}
use Rattle.command_texts.specs.Printed.{ended_verdict}
pub use Rattle.program_load.specs.Answer.{fault_status, fault_line, fault_verdict, verdict_after, IsReadFault, FailedToRead, IsMemoryFault, IsMemory, SettlesThen}
use Rattle.program_load.specs.Verdict.{Verdict}
use Rattle.program_load.specs.declared.fault.Fault.{Fault}
pub use Rattle.run_inputs.specs.Answer.{Names, IsOfRequest}
use Rattle.coz_words.specs.declared.request.Request.{Request}
use Rattle.hot_lines.specs.HotRun.{hot_written}
use Rattle.hot_cli.specs.declared.hot.Hot.{Hot}

-- what is printed of a run
abbrev pub text_in : Hot → List ℕ
text_in hot = hot_written hot.names hot.index.lines hot.run

abbrev pub verdict_in : Hot → Verdict
verdict_in hot = ended_verdict hot.run.ending (text_in hot)

-- what is to be printed, or why nothing is
abbrev pub Answer : Type 0
Answer = Result Hot Fault

abbrev pub verdict_of : Answer → Verdict
verdict_of answer = verdict_after answer verdict_in

-- which answers a request may have
abbrev pub Suits : Request → Answer → Type 0
Suits asked (Ok hot) = Unit {0}
Suits asked (Err fault) = IsOfRequest asked fault

-- an answer is this verdict's, or that of a read that failed with a counted fault
abbrev pub Settles : Verdict → ℕ → ℕ → Answer → Type 0
Settles verdict before now answer = SettlesThen verdict_in verdict before now answer
