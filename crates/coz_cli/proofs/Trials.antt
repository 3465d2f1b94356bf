-- What is known of the answer of a trial, and of words that ask for one.
use Rattle.std.proofs.Common.{◌≡◌, inl, ℕ, List, Option, Some, None, Ok, Err, sym, subst}
use Rattle.std.specs.Prelude.{IfSome, IsSomeAnd}
use Rattle.coz_files.specs.Held.{Held}
use Rattle.coz_words.specs.declared.command.Command.{Command}
use Rattle.coz_words.specs.declared.command.Command.TheVariants.{Trial}
use Rattle.coz_words.specs.declared.request.Request.{Request}
use Rattle.program_load.specs.declared.fault.Fault.{Fault}
use Rattle.coz_words.specs.Slow.{request_of}
use Rattle.coz_commands.specs.Answer.{Answer, IsMemory, IsOfTrial, FailedToRead, IsReadFault, Settles, Suits}
use Rattle.coz_commands.specs.Verdict.{Verdict, command_verdict, trial_verdict}
use Rattle.run_inputs.proofs.Faults.{memory_is}
use Rattle.coz_cli.specs.Program.{AskTrial}

pub trial_suits : (asked : Request) (v : Verdict) (answer : Answer) → IsOfTrial v answer → Suits asked answer
trial_suits asked v (Ok p) is = is.low
trial_suits asked v (Err fault) is = subst (λ (f : Fault). Suits asked (Err f)) (sym (memory_is fault is.memory)) tt

pub trial_settled : (told : Option Held) (asked : Request) (command : Command) (before now : ℕ) (answer : Answer) → command ≡ Trial → IsOfTrial (trial_verdict asked.seed asked.size) answer
    → IfSome told (λ held. (IsMemory answer → ⊥) → Settles (command_verdict command asked held) before now answer)
trial_settled None asked command before now answer is of = tt
trial_settled (Some held) asked command before now (Ok p) is of = λ other.
    subst (λ (c : Command). Settles (command_verdict c asked held) before now (Ok p)) (sym is) (inl of.verdict)
trial_settled (Some held) asked command before now (Err fault) is of = λ other. absurd (other of.memory)

pub trial_no_read : (v : Verdict) (answer : Answer) → IsOfTrial v answer → FailedToRead answer → ⊥
trial_no_read v (Ok p) of read = read
trial_no_read v (Err fault) of read = subst IsReadFault (memory_is fault of.memory) read

-- the request of words that ask for a trial
pub asks_trial : (words : List (List ℕ)) (asked : Request) → Some asked ≡ request_of words → AskTrial words → asked.command ≡ Trial
asks_trial words asked makes ask = subst (λ (o : Option Request). IsSomeAnd o (λ asked. asked.command ≡ Trial)) (sym makes) ask

pub asks_nothing : (words : List (List ℕ)) → None ≡ request_of words → AskTrial words → ⊥
asks_nothing words none ask = subst (λ (o : Option Request). IsSomeAnd o (λ asked. asked.command ≡ Trial)) (sym none) ask
