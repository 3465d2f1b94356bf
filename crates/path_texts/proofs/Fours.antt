-- Events that are read in fours.
use Rattle.std.proofs.Common.{◌≡◌, ℕ, ◌+◌, ◌-◌, ◌<◌, ◌≤◌, List, length, drop, take, arith, subst, ◌⊎◌, inl, inr}
use Rattle.std.specs.List.{All}
use Rattle.std.proofs.lemmas.Bool.{cases_lt}
use Rattle.std.proofs.lemmas.List.{get_or-drop, length-drop, take_all}
use Rattle.std.proofs.lemmas.List.Elements.{All-drop, All-from_get_or, All-get_or, All-take}
use Rattle.path_chains.specs.declared.event.Event.{Event}
use Rattle.path_chains.specs.Path.{event_at, no_event}
use Rattle.path_texts.specs.Segments.{AreFourOfFirst}

abbrev IsOfFirst : Event → Type 0
IsOfFirst e = e.hart.0 ≡ 0

module _ (events : List Event) where
  at : (j k : ℕ) → j ≡ k → IsOfFirst (event_at events j) → IsOfFirst (event_at events k)
  at j k same is = subst (λ (n : ℕ). IsOfFirst (event_at events n)) same is

  four_by : (i k : ℕ) → AreFourOfFirst events i → i ≤ k → k < i + 4 → (k < i + 1) ⊎ (i + 1 ≤ k) → (k < i + 2) ⊎ (i + 2 ≤ k) → (k < i + 3) ⊎ (i + 3 ≤ k) → IsOfFirst (event_at events k)
  four_by i k f low high (inl a) b c = at i k (omega (arith, a, low)) f.first
  four_by i k f low high (inr a) (inl b) c = at (i + 1) k (omega (arith, a, b)) f.second
  four_by i k f low high (inr a) (inr b) (inl c) = at (i + 2) k (omega (arith, b, c)) f.third
  four_by i k f low high (inr a) (inr b) (inr c) = at (i + 3) k (omega (arith, c, high)) f.fourth

  more_by : (i k : ℕ) → AreFourOfFirst events i → ((j : ℕ) → j < i → IsOfFirst (event_at events j)) → k < i + 4 → (k < i) ⊎ (i ≤ k) → IsOfFirst (event_at events k)
  more_by i k f known high (inl low) = known k low
  more_by i k f known high (inr low) = four_by i k f low high (cases_lt k (i + 1)) (cases_lt k (i + 2)) (cases_lt k (i + 3))

  -- four more
  pub four_more : (i : ℕ) → AreFourOfFirst events i → ((j : ℕ) → j < i → IsOfFirst (event_at events j)) → (k : ℕ) → k < i + 4 → IsOfFirst (event_at events k)
  four_more i f known k high = more_by i k f known high (cases_lt k i)

  -- if all are, so are four
  pub four_of : (i : ℕ) → i + 4 ≤ length events → All (λ e. e.hart.0 ≡ 0) events → AreFourOfFirst events i
  four_of i some all = record {
    first = All-get_or IsOfFirst events i no_event (omega (arith, some)) all;
    second = All-get_or IsOfFirst events (i + 1) no_event (omega (arith, some)) all;
    third = All-get_or IsOfFirst events (i + 2) no_event (omega (arith, some)) all;
    fourth = All-get_or IsOfFirst events (i + 3) no_event (omega (arith, some)) all;
  }

  -- the events from a number on
  abbrev pub rest_from : ℕ → List Event
  rest_from i = take (length events - i) (drop i events)

  whole_rest : (i : ℕ) → rest_from i ≡ drop i events
  whole_rest i = take_all (length events - i) (drop i events) (omega (arith, length-drop i events))

  pub rest_of : (i : ℕ) → All (λ e. e.hart.0 ≡ 0) events → All (λ e. e.hart.0 ≡ 0) (rest_from i)
  rest_of i all = All-take IsOfFirst (length events - i) (drop i events) (All-drop IsOfFirst i events all)

  either : (i k : ℕ) → ((j : ℕ) → j < i → IsOfFirst (event_at events j)) → All IsOfFirst (drop i events) → k < length events → (k < i) ⊎ (i ≤ k) → IsOfFirst (event_at events k)
  either i k known rest below (inl low) = known k low
  either i k known rest below (inr high) =
      let there = All-get_or IsOfFirst (drop i events) (k - i) no_event (omega (arith, length-drop i events, below, high)) rest in
      at (i + (k - i)) k (omega (arith, high)) (subst IsOfFirst (get_or-drop i events (k - i) no_event) there)

  -- those so far and the rest are all
  pub of_first : (i : ℕ) → ((j : ℕ) → j < i → IsOfFirst (event_at events j)) → All (λ e. e.hart.0 ≡ 0) (rest_from i) → All (λ e. e.hart.0 ≡ 0) events
  of_first i known rest =
      let from : All IsOfFirst (drop i events) = subst (All IsOfFirst) (whole_rest i) rest in
      All-from_get_or IsOfFirst events no_event (λ k below. either i k known from below (cases_lt k i))
