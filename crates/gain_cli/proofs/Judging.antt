-- An answer of a request is what its words come to.
use Rattle.std.proofs.Common.{◌≡◌, ℕ, List, Option, Some, None, IfSome, Ok, Err, refl, sym, subst}
use Rattle.std.specs.Prelude.{IfNone}
use Rattle.coz_files.specs.Faults.{Rose}
use Rattle.coz_files.specs.Held.{Held}
use Rattle.coz_serve.specs.Serves.{Judges, Serves}
use Rattle.coz_serve.specs.Written.{refused_by, shown_by}
use Rattle.coz_serve.proofs.Refused.{memory_judged, none_judged}
use Rattle.file_read.specs.declared.fault.FileFault.TheVariants.{Usage, Memory}
use Rattle.program_load.specs.declared.fault.Fault.TheVariants.{File}
use Rattle.program_load.specs.Answer.{fault_line, fault_status, shared_fault, FailedToRead, IsMemory}
use Rattle.run_inputs.proofs.Serving.{fault_judged, ok_judged}
use Rattle.gain_words.specs.declared.asked.GainRequest.{GainRequest}
use Rattle.gain_cli.specs.Answer.{Answer, Settles, Suits, status_in, text_in}
use Rattle.gain_cli.specs.Verdict.{gain_verdict}
use Rattle.gain_cli.specs.Program.{gain_program}

module _ (told : Option Held) (before now : ℕ) where
  abbrev pub IsJudged : Option GainRequest → Answer → Type 0
  IsJudged request answer = Judges (gain_program request) (shown_by status_in text_in) (refused_by fault_status fault_line) shared_fault told before now answer

  no_request : (asked : GainRequest) → ◌≡◌ {A = Option GainRequest} (Some asked) None → ⊥
  no_request asked is = cc

  -- the answer of a request
  pub answer_judged : (asked : GainRequest) (answer : Answer) → Suits asked.profile answer → IfSome told (λ held. (IsMemory answer → ⊥) → Settles (gain_verdict asked held) before now answer)
      → (FailedToRead answer → IfNone told (Rose before now)) → ((FailedToRead answer → ⊥) → now ≡ before) → IsJudged (Some asked) answer
  answer_judged asked (Ok gain) suits settled cause steady =
      ok_judged (gain_program (Some asked)) status_in text_in told before now asked.profile (gain_verdict asked) (no_request asked) (λ path is. is) (λ held v is. is)
      gain suits settled (steady (λ no. no))
  answer_judged asked (Err fault) suits settled cause steady =
      fault_judged (gain_program (Some asked)) status_in text_in told before now asked.profile (gain_verdict asked) (no_request asked) (λ path is. is) (λ held v is. is)
      fault suits settled cause steady

  -- words that make no request
  pub usage_judged : now ≡ before → IsJudged None (Err (File Usage))
  usage_judged steady = none_judged (gain_program None) status_in text_in fault_status fault_line shared_fault told before now (File Usage) refl refl (λ held. refl) steady

  -- words for which there was no memory
  pub lack_judged : (request : Option GainRequest) → now ≡ before → IsJudged request (Err (File Memory))
  lack_judged request steady = memory_judged (gain_program request) status_in text_in fault_status fault_line shared_fault told before now (File Memory) refl steady

-- a request that the words make is theirs
pub served_of : {O E : Type 0} {told : Option Held} {before now : ℕ} {holds : O → Option (List ℕ)} {faults : O → ℕ} {old new : O} {err_holds : E → Option (List ℕ)} {err_faults : E → ℕ} {err_old err_new : E} {status : ℕ}
    (request made : Option GainRequest) → made ≡ request → Serves (gain_program request) told before now holds faults old new err_holds err_faults err_old err_new status
    → Serves (gain_program made) told before now holds faults old new err_holds err_faults err_old err_new status
served_of {O} {E} {told} {before} {now} {holds} {faults} {old} {new} {err_holds} {err_faults} {err_old} {err_new} {status} request made is served =
    subst (λ (r : Option GainRequest). Serves (gain_program r) told before now holds faults old new err_holds err_faults err_old err_new status) (sym is) served
