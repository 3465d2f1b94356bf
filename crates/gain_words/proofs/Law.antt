-- A request is computed of the words if and only if they ask for it.
use Rattle.std.proofs.Common.{◌≡◌, ◌↔◌, List, ◌∷◌, fold, Option, Some, None, option_and_then, refl, sym, ap, ◌∙◌, subst}
use Rattle.coz_words.specs.Said.{Text}
use Rattle.coz_words.specs.Request.{command_name}
use Rattle.coz_words.specs.declared.command.Command.TheVariants.{Profile}
use Rattle.coz_words.proofs.Exact.{then_some}
use Rattle.timing_model.specs.Timing.{usual, IsTiming}
use Rattle.gain_words.specs.declared.asked.GainRequest.{GainRequest}
use Rattle.gain_words.specs.declared.setting.Setting.{Setting}
use Rattle.gain_words.specs.declared.setting.Setting.TheVariants as settings
use Rattle.gain_words.specs.Slots.{value_or}
use Rattle.gain_words.specs.Words.{Given, no_words, scan_word, timing_of, profile_in, gain_request_of, gain_request, cores_in, slice_in, costs_in, charge_in, seed_in}
use Rattle.gain_words.specs.Grammar.{Item, others, values, AsksGain}
use Rattle.gain_words.proofs.Held.{take_item, all_free, held_cores, held_slice, held_costs, held_charge, held_seed, held_rest, gives, given}
use Rattle.gain_words.proofs.Ranges.{Machine, machine, machine_is, timing_within}
use Rattle.gain_words.proofs.Profiles.{profile_forth, profile_back}
use Rattle.gain_words.proofs.Said.{said_forth, said_back}

-- ---- what a scan has that makes a request

record Makes (f : Given) (r : GainRequest) : Type 0 where
  free : f.wanting ≡ None
  timing : timing_of f ≡ Some r.timing
  profile : profile_in f.rest ≡ Some r.profile

abbrev of_free : Given → Option GainRequest
of_free f = option_and_then (λ timing. option_and_then (λ profile. Some (record { profile = profile; timing = timing })) (profile_in f.rest)) (timing_of f)

request_is : (f : Given) (r : GainRequest) → Makes f r → gain_request_of f ≡ Some r
request_is f r m = rw (m.free, m.timing, m.profile) refl

makes_free : (f : Given) (r : GainRequest) → f.wanting ≡ None → of_free f ≡ Some r → Makes f r
makes_free f r free e =
    let timing = then_some (timing_of f) _ r e in
    let profile = then_some (profile_in f.rest) _ r timing.2 in
    let made : GainRequest = record { profile = profile.0; timing = timing.0 } in
    let some : Some made ≡ Some r = profile.2 in
    let same : made ≡ r = cc in
    record {
      free = free;
      timing = timing.1 ∙ ap (λ (q : GainRequest). Some q.timing) same;
      profile = profile.1 ∙ ap (λ (q : GainRequest). Some q.profile) same;
    }

makes : (f : Given) (r : GainRequest) → gain_request_of f ≡ Some r → Makes f r
makes f r e = by f.wanting refl e
  where
    by : (o : Option Setting) → f.wanting ≡ o → (elim o [ Some setting ↦ None | None ↦ of_free f ]) ≡ Some r → Makes f r
    by None free is = makes_free f r free is
    by (Some setting) free is = absurd cc

-- ---- the law

asks : (words : List Text) (r : GainRequest) → gain_request words ≡ Some r → AsksGain words r
unfolding gain_request
asks words r e =
    let f : Given = fold scan_word no_words words in
    let m : Makes f r = makes f r e in
    let found = said_back words None no_words refl m.free in
    let items : List Item = found.0 in
    let h : Given = fold take_item no_words items in
    let is : f ≡ h = found.2 in
    let t : Machine h r.timing = subst (λ (g : Given). Machine g r.timing) is (machine f r.timing m.timing) in
    let rest : f.rest ≡ command_name Profile ∷ others items = ap (λ (g : Given). g.rest) is ∙ held_rest items no_words in
    let profile = profile_forth (command_name Profile ∷ others items) r.profile (ap profile_in (sym rest) ∙ m.profile) in
    record {
      items = items;
      said = found.1;
      profile = profile.0;
      few = profile.1;
      cores = gives cores_in (values settings.Cores items) usual.cores r.timing.cores (ap (λ slot. value_or slot usual.cores) (sym (held_cores items no_words)) ∙ t.cores);
      slice = gives slice_in (values settings.Slice items) usual.slice r.timing.slice (ap (λ slot. value_or slot usual.slice) (sym (held_slice items no_words)) ∙ t.slice);
      costs = gives costs_in (values settings.Costs items) usual.costs r.timing.costs (ap (λ slot. value_or slot usual.costs) (sym (held_costs items no_words)) ∙ t.costs);
      charge = gives charge_in (values settings.Charge items) usual.charge r.timing.charge (ap (λ slot. value_or slot usual.charge) (sym (held_charge items no_words)) ∙ t.charge);
      seed = gives seed_in (values settings.Seed items) usual.seed r.timing.seed (ap (λ slot. value_or slot usual.seed) (sym (held_seed items no_words)) ∙ t.seed);
    }

asked : (words : List Text) (r : GainRequest) → AsksGain words r → gain_request words ≡ Some r
unfolding gain_request
asked words r a =
    let items : List Item = a.items in
    let h : Given = fold take_item no_words items in
    ap gain_request_of (said_forth items words no_words refl a.said)
    ∙ request_is h r (record {
      free = all_free items no_words refl;
      timing = machine_is h r.timing (record {
        cores = ap (λ slot. value_or slot usual.cores) (held_cores items no_words) ∙ given cores_in (values settings.Cores items) usual.cores r.timing.cores a.cores;
        slice = ap (λ slot. value_or slot usual.slice) (held_slice items no_words) ∙ given slice_in (values settings.Slice items) usual.slice r.timing.slice a.slice;
        costs = ap (λ slot. value_or slot usual.costs) (held_costs items no_words) ∙ given costs_in (values settings.Costs items) usual.costs r.timing.costs a.costs;
        charge = ap (λ slot. value_or slot usual.charge) (held_charge items no_words) ∙ given charge_in (values settings.Charge items) usual.charge r.timing.charge a.charge;
        seed = ap (λ slot. value_or slot usual.seed) (held_seed items no_words) ∙ given seed_in (values settings.Seed items) usual.seed r.timing.seed a.seed;
      });
      profile = ap profile_in (held_rest items no_words) ∙ profile_back (others items) r.profile a.profile a.few;
    })

pub law : (words : List Text) (r : GainRequest) → (gain_request words ≡ Some r) ↔ AsksGain words r
law words r = (asks words r, asked words r)

-- ---- the machine of a request

pub machine_within : (words : List Text) (r : GainRequest) → gain_request_of (fold scan_word no_words words) ≡ Some r → IsTiming r.timing
machine_within words r e =
    let f : Given = fold scan_word no_words words in
    let m : Makes f r = makes f r e in
    timing_within words r.timing m.timing
