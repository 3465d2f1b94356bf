-- What the top call leaves, by the answer that its words came to.
use Rattle.std.proofs.Common.{◌≡◌, ◌⊎◌, ◌≤◌, ◌<◌, ℕ, List, Option, Some, None, IfSome, Ok, Err, refl, sym, ◌∙◌, subst, arith, inl, inr}
use Rattle.std.specs.Prelude.{IfNone, IfErr}
use Rattle.std.specs.Io.KnownBytes.{Appends}
use Rattle.std.proofs.lemmas.Bool.{cases_lt}
use Rattle.coz_files.specs.Faults.{Rose}
use Rattle.coz_files.specs.Held.{Held}
use Rattle.coz_files.specs.Verdict.{Verdict}
use Rattle.coz_serve.specs.Serves.{HasVerdict, Judges, Serves}
use Rattle.coz_serve.specs.Written.{IsWritten, refused_by, shown_by}
use Rattle.coz_serve.proofs.Refused.{memory_judged, none_judged}
use Rattle.command_texts.specs.Printed.{text_bytes}
use Rattle.command_texts.specs.declared.printed.Printed.{Printed}
use Rattle.file_read.specs.declared.fault.FileFault.TheVariants.{Usage, Memory}
use Rattle.program_load.specs.declared.fault.Fault.TheVariants.{File}
use Rattle.program_load.specs.Answer.{fault_line, fault_status, shared_fault}
use Rattle.coz_words.specs.declared.request.Request.{Request}
use Rattle.coz_words.specs.Slow.{request_of}
use Rattle.coz_commands.specs.Answer.{Answer, FailedToRead, IsMemory, IsMemoryFault, Settles, Suits}
use Rattle.coz_commands.specs.Verdict.{command_verdict}
use Rattle.run_inputs.proofs.Faults.{memory_status}
use Rattle.run_inputs.proofs.Serving.{fault_judged, ok_judged}
use Rattle.coz_cli.specs.Headline.{PrintsForAnyWorkers, PrintsShortened}
use Rattle.coz_cli.specs.Program.{coz_program}
use Rattle.coz_cli.proofs.Printed.{prints_shortened}
use Rattle.coz_cli.proofs.Workers.{not_printed, printed_alike}

abbrev pub status_of : Printed → ℕ
status_of printed = printed.status

abbrev pub text_of : Printed → List ℕ
text_of printed = text_bytes printed.text

module _ (told : Option Held) (before now : ℕ) where
  abbrev pub IsJudged : Option Request → Answer → Type 0
  IsJudged request answer = Judges (coz_program request) (shown_by status_of text_of) (refused_by fault_status fault_line) shared_fault told before now answer

  some_request : (asked : Request) → ◌≡◌ {A = Option Request} (Some asked) None → ⊥
  some_request asked is = cc

  -- the answer of a request
  pub answer_judged : (asked : Request) (answer : Answer) → Suits asked answer → IfSome told (λ held. (IsMemory answer → ⊥) → Settles (command_verdict asked.command asked held) before now answer)
      → (FailedToRead answer → IfNone told (Rose before now)) → ((FailedToRead answer → ⊥) → now ≡ before) → IsJudged (Some asked) answer
  answer_judged asked (Ok printed) suits settled cause steady =
      ok_judged (coz_program (Some asked)) status_of text_of told before now asked (command_verdict asked.command asked) (some_request asked) (λ path is. is) (λ held v is. is)
      printed suits settled (steady (λ no. no))
  answer_judged asked (Err fault) suits settled cause steady =
      fault_judged (coz_program (Some asked)) status_of text_of told before now asked (command_verdict asked.command asked) (some_request asked) (λ path is. is) (λ held v is. is)
      fault suits settled cause steady

  -- words that make no request
  pub usage_judged : now ≡ before → IsJudged None (Err (File Usage))
  usage_judged steady = none_judged (coz_program None) status_of text_of fault_status fault_line shared_fault told before now (File Usage) refl refl (λ held. refl) steady

  -- words for which there was no memory
  pub lack_judged : (request : Option Request) → now ≡ before → IsJudged request (Err (File Memory))
  lack_judged request steady = memory_judged (coz_program request) status_of text_of fault_status fault_line shared_fault told before now (File Memory) refl steady

-- a request that the words make is theirs
pub served_of : {O E : Type 0} {told : Option Held} {before now : ℕ} {holds : O → Option (List ℕ)} {faults : O → ℕ} {old new : O} {err_holds : E → Option (List ℕ)} {err_faults : E → ℕ} {err_old err_new : E} {status : ℕ}
    (request made : Option Request) → made ≡ request → Serves (coz_program request) told before now holds faults old new err_holds err_faults err_old err_new status
    → Serves (coz_program made) told before now holds faults old new err_holds err_faults err_old err_new status
served_of {O} {E} {told} {before} {now} {holds} {faults} {old} {new} {err_holds} {err_faults} {err_old} {err_new} {status} request made is served =
    subst (λ (r : Option Request). Serves (coz_program r) told before now holds faults old new err_holds err_faults err_old err_new status) (sym is) served

-- a status of a trial: of a text, of a failed write, or of no memory
pub trial_status : {O E : Type 0} (name : List ℕ) (holds : O → Option (List ℕ)) (faults : O → ℕ) (old new : O) (err_holds : E → Option (List ℕ)) (err_faults : E → ℕ) (err_old err_new : E) (status : ℕ) (answer : Answer) (request : Request)
    → Suits request answer → IfErr answer IsMemoryFault → IsWritten name holds faults old new err_holds err_faults err_old err_new status (shown_by status_of text_of) (refused_by fault_status fault_line) answer
    → (status ≤ 1) ⊎ (status ≡ 6) ⊎ (status ≡ 10)
trial_status name holds faults old new err_holds err_faults err_old err_new status (Ok printed) request suits memory (inl done) = inl (subst (λ (n : ℕ). n ≤ 1) (sym done.same_status) suits)
trial_status name holds faults old new err_holds err_faults err_old err_new status (Ok printed) request suits memory (inr cut) = inr (inl cut.six)
trial_status name holds faults old new err_holds err_faults err_old err_new status (Err fault) request suits memory refused = inr (inr (refused.same_status ∙ memory_status fault memory))

-- nothing is asked of a status that is above a run's
pub not_headline : (words : List (List ℕ)) (told before after : _) (status : ℕ) → 2 ≤ status → IfSome told (λ held. status ≤ 1 → PrintsShortened words held before after)
not_headline words None before after status high = tt
not_headline words (Some held) before after status high = λ low. absurd (omega (arith, high, low))

-- the words' verdict, with a text that was gained
module _ (words : List (List ℕ)) (before after : Option (List ℕ)) (status : ℕ) where
  -- if the status is that of a text, the verdict's text was gained
  abbrev pub HasGained : Held → Type 0
  HasGained held = status ≤ 1 → HasVerdict (coz_program (request_of words)) held (λ v. (status ≡ v.status) × Appends before after v.text)

  prints_held : (held : Held) → HasGained held → status ≤ 1 → PrintsShortened words held before after
  prints_held held gained low =
      let (v, is, (same, appends)) = gained low in
      prints_shortened words held before after
      (subst (λ (w : Verdict). w.status ≤ 1) is (subst (λ (n : ℕ). n ≤ 1) same low))
      (subst (λ (w : Verdict). Appends before after w.text) is appends)

  pub headline : (told : Option Held) → IfSome told HasGained → IfSome told (λ held. status ≤ 1 → PrintsShortened words held before after)
  headline None gained = tt
  headline (Some held) gained = prints_held held gained

  pub any_workers : (told : Option Held) → IfSome told HasGained → IfSome told (λ held. PrintsForAnyWorkers words held status before after)
  any_workers None gained = tt
  any_workers (Some held) gained = by (cases_lt 1 status)
    where
      by : (1 < status) ⊎ (status ≤ 1) → PrintsForAnyWorkers words held status before after
      by (inr low) =
          let (v, is, (same, appends)) = gained low in
          printed_alike words held status before after (subst (λ (w : Verdict). Appends before after w.text) is appends)
      by (inl high) = not_printed words (Some held) before after status high
