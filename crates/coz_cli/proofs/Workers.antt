-- No verdict depends on the number of workers.
use Rattle.std.proofs.Common.{◌≡◌, ◌≤◌, ℕ, List, Option, Some, None, IfSome, refl, ap, sym, ◌∙◌, subst, arith}
use Rattle.std.specs.Io.KnownBytes.{Appends}
use Rattle.coz_files.specs.Held.{Held}
use Rattle.coz_words.specs.declared.command.Command.{Command}
use Rattle.coz_words.specs.declared.command.Command.TheVariants.{Run, Really, Profile, Lines, Plot, Asm, Trial, Latency, Path}
use Rattle.coz_words.specs.declared.request.Request.{Request}
use Rattle.coz_commands.specs.Latencies.{latency_verdict}
use Rattle.coz_commands.specs.Verdict.{Verdict, command_verdict, recorded_verdict}
use Rattle.coz_cli.specs.Verdict.{request_verdict, verdict}
use Rattle.coz_cli.specs.Headline.{AskAlike, PrintsForAnyWorkers}

same_command : (c : Command) (asked : Request) (workers : ℕ) (held : Held) → command_verdict c asked held ≡ command_verdict c (record asked { workers = workers }) held
unfolding recorded_verdict latency_verdict
same_command Run asked workers held = refl
same_command Really asked workers held = refl
same_command Profile asked workers held = refl
same_command Lines asked workers held = refl
same_command Plot asked workers held = refl
same_command Asm asked workers held = refl
same_command Trial asked workers held = refl
same_command Latency asked workers held = refl
same_command Path asked workers held = refl

alike : (words others : List (List ℕ)) (held : Held) → AskAlike words others → verdict words held ≡ verdict others held
alike words others held asks =
    ap (λ (request : Option Request). request_verdict request held) asks.these
    ∙ same_command asks.asked.command asks.asked asks.workers held
    ∙ ap (λ (request : Option Request). request_verdict request held) (sym asks.those)

-- if a status is above a run's, nothing is said of the output
pub not_printed : (words : List (List ℕ)) (told before after : _) (status : ℕ) → 2 ≤ status → IfSome told (λ held. PrintsForAnyWorkers words held status before after)
not_printed words None before after status high = tt
not_printed words (Some held) before after status high =
    record { same = λ others. alike words others held; printed = λ others asks low. absurd (omega (arith, high, low)) }

-- a verdict whose text was gained
pub printed_alike : (words : List (List ℕ)) (held : Held) (status : ℕ) (before after : Option (List ℕ)) → Appends before after (verdict words held).text
    → PrintsForAnyWorkers words held status before after
printed_alike words held status before after gained = record {
  same = λ others. alike words others held;
  printed = λ others asks low. subst (λ (v : Verdict). Appends before after v.text) (alike words others held asks) gained;
}
