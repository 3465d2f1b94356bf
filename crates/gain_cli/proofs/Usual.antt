-- On the usual machine the program prints what the command `profile` prints.
use Rattle.std.proofs.Common.{◌≡◌, ◌≤◌, ℕ, nat_le, List, fold, Option, Some, None, option_and_then, refl, sym, ap, subst, ◌∙◌}
use Rattle.std.proofs.lemmas.Bool.{leb-true}
use Rattle.coz_files.specs.Held.{Held}
use Rattle.coz_words.specs.Request.{IsFit}
use Rattle.coz_words.specs.Slow.{request_of}
use Rattle.coz_words.specs.declared.command.Command.{Command}
use Rattle.coz_words.specs.declared.command.Command.TheVariants.{Profile}
use Rattle.coz_words.specs.declared.request.Request.{Request}
use Rattle.coz_words.proofs.Exact.{exact_back, if_some, then_some}
use Rattle.coz_words.proofs.Fit.{fit_in}
use Rattle.run_inputs.specs.Verdict.{bytes_verdict}
use Rattle.timing_line.specs.Line.{timing_text}
use Rattle.timing_model.specs.Timing.{usual}
use Rattle.timing_model.specs.declared.timing.Timing.{Timing}
use Rattle.timing_steps.specs.declared.ticks.TheConstants.{MAX_TIMED_BUDGET}
use Rattle.coz_commands.specs.Verdict.{command_verdict, machine_verdict}
use Rattle.coz_commands.proofs.Profiling.{usual_machine}
use Rattle.gain_words.specs.declared.asked.GainRequest.{GainRequest}
use Rattle.gain_words.specs.declared.setting.Setting.{Setting}
use Rattle.gain_words.specs.Words.{Given, as_profile, gain_request, gain_request_of, no_words, profile_in, scan_word, timing_of}
use Rattle.gain_cli.specs.Verdict.{UsualIsCoz, after_text, gain_verdict, request_verdict}
use Rattle.gain_cli.proofs.After.{after_nothing}
use Rattle.gain_cli.proofs.Budgets.{few_in_all, some_budget}

-- ---- the request of `profile` that words make

abbrev of_free : Given → Option GainRequest
of_free g = option_and_then (λ timing. option_and_then (λ profile. Some (record { profile = profile; timing = timing })) (profile_in g.rest)) (timing_of g)

free_makes : (g : Given) (r : GainRequest) → of_free g ≡ Some r → profile_in g.rest ≡ Some r.profile
free_makes g r e =
    let timing = then_some (timing_of g) _ r e in
    let profile = then_some (profile_in g.rest) _ r timing.2 in
    let made : GainRequest = record { profile = profile.0; timing = timing.0 } in
    let some : Some made ≡ Some r = profile.2 in
    let same : made ≡ r = cc in
    profile.1 ∙ ap (λ (q : GainRequest). Some q.profile) same

makes : (g : Given) (r : GainRequest) → gain_request_of g ≡ Some r → profile_in g.rest ≡ Some r.profile
makes g r e = by g.wanting e
  where
    by : (o : Option Setting) → (elim o [ Some setting ↦ None | None ↦ of_free g ]) ≡ Some r → profile_in g.rest ≡ Some r.profile
    by None is = free_makes g r is
    by (Some setting) is = absurd cc

-- such a request is one of `profile`, and its budget is small
record IsProfile (r : Request) : Type 0 where
  fit : IsFit r
  profile : r.command ≡ Profile
  few : r.budget ≤ MAX_TIMED_BUDGET

as_is : (c : Command) (x r : Request) → as_profile c x ≡ Some r → (c ≡ Profile) × (x.budget ≤ MAX_TIMED_BUDGET) × (x ≡ r)
as_is Profile x r e =
    let fits = if_some (nat_le x.budget MAX_TIMED_BUDGET) (Some x) r e in
    let some : Some x ≡ Some r = fits.1 in
    let same : x ≡ r = cc in
    (refl, leb-true x.budget MAX_TIMED_BUDGET fits.0, same)
as_is c x r e = absurd cc

profile_is : (words : List (List ℕ)) (r : Request) → profile_in words ≡ Some r → IsProfile r
unfolding request_of
profile_is words r e =
    let found = then_some (request_of words) (λ profile. as_profile profile.command profile) r e in
    let x : Request = found.0 in
    let is = as_is x.command x r found.2 in
    subst IsProfile is.2 (record { fit = fit_in words x (exact_back words x found.1); profile = is.0; few = is.1 })

asked_is : (words : List (List ℕ)) (asked : GainRequest) → gain_request words ≡ Some asked → IsProfile asked.profile
unfolding gain_request
asked_is words asked e = let g : Given = fold scan_word no_words words in profile_is g.rest asked.profile (makes g asked e)

-- ---- its verdict

usual_verdict : (asked : GainRequest) (held : Held) → asked.timing ≡ usual → IsProfile asked.profile → gain_verdict asked held ≡ command_verdict asked.profile.command asked.profile held
usual_verdict asked held is of =
    let p = asked.profile in
    ap (λ (t : Timing). after_text (timing_text t) (bytes_verdict p held (machine_verdict t p))) is
    ∙ after_nothing (bytes_verdict p held (machine_verdict usual p))
    ∙ ap (bytes_verdict p held) (usual_machine p (some_budget p of.fit of.profile) (few_in_all p.budget of.few) of.fit.speedups)
    ∙ ap (λ (c : Command). command_verdict c p held) (sym of.profile)

pub usual_is : UsualIsCoz
usual_is words asked held named is =
    ap (λ (r : Option GainRequest). request_verdict r held) named ∙ usual_verdict asked held is (asked_is words asked named)
