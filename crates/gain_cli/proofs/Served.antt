-- What is printed of the words, by what the top call leaves.
use Rattle.std.proofs.Common.{◌≡◌, ◌≤◌, ℕ, List, Option, Some, None, IfSome, refl, sym, ap, subst, ◌∙◌, arith}
use Rattle.std.specs.Io.KnownBytes.{Appends}
use Rattle.coz_files.specs.Held.{Held}
use Rattle.coz_serve.specs.Serves.{HasVerdict}
use Rattle.coz_words.specs.Request.{IsFit}
use Rattle.coz_words.specs.declared.command.Command.TheVariants.{Profile}
use Rattle.timing_steps.specs.declared.ticks.TheConstants.{MAX_TIMED_BUDGET}
use Rattle.guest_timing.specs.Timed.{TimedRunsKeepTheLaw}
use Rattle.coz_commands.specs.Verdict.{recorded_verdict}
use Rattle.gain_words.specs.declared.asked.GainRequest.{GainRequest}
use Rattle.gain_words.specs.Words.{gain_request}
use Rattle.gain_cli.specs.Verdict.{Verdict, gain_verdict, request_verdict, verdict}
use Rattle.gain_cli.specs.Program.{gain_program}
use Rattle.gain_cli.specs.Headline.{AskAlike, PrintsForAnyWorkers, PrintsGain, PrintsProfile}
use Rattle.gain_cli.proofs.Headline.{prints_profile}

-- ---- workers

same_verdict : (asked : GainRequest) (workers : ℕ) (held : Held) → gain_verdict asked held ≡ gain_verdict (record asked { profile = record (asked.profile) { workers = workers } }) held
unfolding recorded_verdict
same_verdict asked workers held = refl

alike : (words others : List (List ℕ)) (held : Held) → AskAlike words others → verdict words held ≡ verdict others held
alike words others held asks =
    ap (λ (request : Option GainRequest). request_verdict request held) asks.these
    ∙ same_verdict asks.asked asks.workers held
    ∙ ap (λ (request : Option GainRequest). request_verdict request held) (sym asks.those)

-- if a status is above a profile's, nothing is said of the output
pub not_printed : (words : List (List ℕ)) (told before after : _) (status : ℕ) → 2 ≤ status → IfSome told (λ held. PrintsForAnyWorkers words held status before after)
not_printed words None before after status high = tt
not_printed words (Some held) before after status high =
    record { same = λ others. alike words others held; printed = λ others asks low. absurd (omega (arith, high, low)) }

pub not_headline : (words : List (List ℕ)) (told before after : _) (status : ℕ) → 2 ≤ status → IfSome told (λ held. status ≤ 1 → PrintsGain words held before after)
not_headline words None before after status high = tt
not_headline words (Some held) before after status high = λ low. absurd (omega (arith, high, low))

-- ---- the words' verdict, with a text that was gained

module _ (words : List (List ℕ)) (before after : Option (List ℕ)) (status : ℕ) where
  abbrev pub HasGained : Held → Type 0
  HasGained held = status ≤ 1 → HasVerdict (gain_program (gain_request words)) held (λ v. (status ≡ v.status) × Appends before after v.text)

  pub any_workers : (told : Option Held) → IfSome told HasGained → IfSome told (λ held. PrintsForAnyWorkers words held status before after)
  any_workers None gained = tt
  any_workers (Some held) gained = record {
    same = λ others. alike words others held;
    printed = λ others asks low.
        let (v, is, (same, appends)) = gained low in
        subst (λ (w : Verdict). Appends before after w.text) (is ∙ alike words others held asks) appends;
  }

  module _ (law : TimedRunsKeepTheLaw) (request : GainRequest) (makes : gain_request words ≡ Some request) (fit : IsFit request.profile) (profile : request.profile.command ≡ Profile) (few : request.profile.budget ≤ MAX_TIMED_BUDGET) where
    prints_held : (held : Held) → HasGained held → status ≤ 1 → PrintsGain words held before after
    prints_held held gained low = λ asked named.
        let (v, is, (same, appends)) = gained low in
        let of : v ≡ gain_verdict request held = is ∙ ap (λ (r : Option GainRequest). request_verdict r held) makes in
        let both : Some request ≡ Some asked = sym makes ∙ named in
        let one : request ≡ asked = cc in
        subst (λ (r : GainRequest). PrintsProfile held r before after) one
        (prints_profile law held request before after fit profile few
        (subst (λ (w : Verdict). w.status ≤ 1) of (subst (λ (n : ℕ). n ≤ 1) same low))
        (subst (λ (w : Verdict). Appends before after w.text) of appends))

    pub headline : (told : Option Held) → IfSome told HasGained → IfSome told (λ held. status ≤ 1 → PrintsGain words held before after)
    headline None gained = tt
    headline (Some held) gained = prints_held held gained
