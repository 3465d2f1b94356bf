-- A chain of as many numbers as there are events has all events, in order.
use Rattle.std.proofs.Common.{◌≡◌, ℕ, zero, suc, ◌+◌, ◌<◌, ◌≤◌, List, [], ◌∷◌, ◌++◌, length, take, Option, Some, None, refl, sym, ap, ◌∙◌, arith}
use Rattle.std.proofs.lemmas.List.{length-append, map-append, take_all, take_more}
use Rattle.path_chains.specs.declared.event.Event.{Event}
use Rattle.path_chains.specs.Path.{chain_of, chain_to, event_at, last_of, no_event, Linked}
use Rattle.path_chains.proofs.Chains.{from_lower}
use Rattle.path_texts.specs.PathText.{events_on}

module _ (events : List Event) (linked : Linked events) where
  -- at most one number for each event up to the last one
  few_by : (n i : ℕ) → i < length events → ((p : ℕ) → p < length events → length (chain_to events (Some p) n) ≤ p + 1) → (from : Option ℕ) → (event_at events i).from ≡ from → length (chain_to events from n ++ i ∷ []) ≤ i + 1
  few_by n i below earlier None is = omega arith
  few_by n i below earlier (Some p) is =
      let lower = (from_lower events linked i p below is).0 in
      omega (arith, length-append (chain_to events (Some p) n) (i ∷ []), earlier p (omega (arith, lower, below)), lower)

  few : (n i : ℕ) → i < length events → length (chain_to events (Some i) n) ≤ i + 1
  few zero i below = omega arith
  few (suc n) i below = few_by n i below (few n) (event_at events i).from refl

  longer : (xs : List ℕ) (i j : ℕ) → i < length events → j ≡ i → events_on events xs ≡ take j events → events_on events (xs ++ i ∷ []) ≡ take (i + 1) events
  longer xs i j below next so_far =
      map-append (event_at events) xs (i ∷ [])
      ∙ ap (λ (es : List Event). es ++ event_at events i ∷ []) (so_far ∙ ap (λ (k : ℕ). take k events) next)
      ∙ sym (take_more events i no_event below)

  all_by : (n i : ℕ) → i < length events → ((p : ℕ) → p < length events → length (chain_to events (Some p) n) ≡ p + 1 → events_on events (chain_to events (Some p) n) ≡ take (p + 1) events)
      → (from : Option ℕ) → (event_at events i).from ≡ from → length (chain_to events from n ++ i ∷ []) ≡ i + 1 → events_on events (chain_to events from n ++ i ∷ []) ≡ take (i + 1) events
  all_by n i below earlier None is one = longer [] i 0 below (omega (arith, one)) refl
  all_by n i below earlier (Some p) is more =
      let lower = (from_lower events linked i p below is).0 in
      let there : p < length events = omega (arith, lower, below) in
      let fewer = few n p there in
      let counted = length-append (chain_to events (Some p) n) (i ∷ []) in
      let next : p + 1 ≡ i = omega (arith, counted, fewer, lower, more) in
      longer (chain_to events (Some p) n) i (p + 1) below next (earlier p there (omega (arith, counted, more, next)))

  all_to : (n i : ℕ) → i < length events → length (chain_to events (Some i) n) ≡ i + 1 → events_on events (chain_to events (Some i) n) ≡ take (i + 1) events
  all_to zero i below many = absurd (omega (arith, many))
  all_to (suc n) i below many = all_by n i below (all_to n) (event_at events i).from refl many

  pub all_events : length (chain_of events) ≡ length events → events_on events (chain_of events) ≡ events
  unfolding chain_of
  all_events many =
      let some = linked.some in
      all_to (length events) (last_of events) (omega (arith, some)) (omega (arith, many, some))
      ∙ take_all (last_of events + 1) events (omega (arith, some))
