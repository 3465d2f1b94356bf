-- No chain is heavier than a sound one.
use Rattle.std.proofs.Common.{◌≡◌, ℕ, ◌+◌, ◌≤◌, ◌<◌, List, [], ◌∷◌, length, Option, Some, None, inl, inr, arith, refl, All, EachIndex}
use Rattle.std.proofs.lemmas.List.Sums.{sum_by-cons}
use Rattle.std.proofs.lemmas.List.Elements.{All-get_or, All-nil, All-cons}
use Rattle.path_chains.specs.declared.event.Event.{Event}
use Rattle.path_chains.specs.Path.{event_at, no_event, last_of, ticks, weight, Follows, GoesOn, IsChain, IsTimely, Sound}

module _ (events : List Event) (top : ℕ) (timely : EachIndex events (IsTimely events)) (latest : (i : ℕ) → i < length events → (event_at events i).due ≤ top) where
  -- an event is no sooner than its ticks after what it waited for
  after : (i j : ℕ) → j < length events → Follows (event_at events j) i → (event_at events i).due + ticks (event_at events j) ≤ (event_at events j).due
  after i j below (inl from) = ((timely j below).from i from).later
  after i j below (inr before) = ((timely j below).before i before).later

  -- nor than its ticks
  alone_by : (i : ℕ) → i < length events → (from before : Option ℕ) → (event_at events i).from ≡ from → (event_at events i).before ≡ before → ticks (event_at events i) ≤ (event_at events i).due
  alone_by i below None None from before = (timely i below).first from before
  alone_by i below None (Some p) from before = omega (arith, ((timely i below).before p before).later)
  alone_by i below (Some p) before from is = omega (arith, ((timely i below).from p from).later)

  alone : (i : ℕ) → i < length events → ticks (event_at events i) ≤ (event_at events i).due
  alone i below = alone_by i below (event_at events i).from (event_at events i).before refl refl

  -- what weighs no more than an event's moment, and what comes after that event, weigh no more than the last moment
  rest_weighs : (i w : ℕ) (rest : List ℕ) → i < length events → w ≤ (event_at events i).due → GoesOn events i rest → w + weight events rest ≤ top
  rest_weighs i w [] below fits goes = omega (arith, latest i below)
  rest_weighs i w (j ∷ rest) below fits goes =
      let step = after i j goes.0 goes.1.0 in
      let more = rest_weighs j (w + ticks (event_at events j)) rest goes.0 (omega arith) goes.1.1 in
      omega (arith, more, sum_by-cons (λ k. ticks (event_at events k)) j rest)

  pub chain_weighs : (other : List ℕ) → IsChain events other → weight events other ≤ top
  chain_weighs [] chain = absurd chain
  chain_weighs (i ∷ rest) chain =
      let all = rest_weighs i (ticks (event_at events i)) rest chain.0 (alone i chain.0) chain.1 in
      omega (arith, all, sum_by-cons (λ k. ticks (event_at events k)) i rest)

pub none_heavier : (events : List Event) (list : List ℕ) → Sound events list → (other : List ℕ) → IsChain events other → weight events other ≤ weight events list
none_heavier events list sound other chain =
    let top = (event_at events (last_of events)).due in
    omega (arith, chain_weighs events top sound.timely (λ i below. All-get_or (λ (e : Event). e.due ≤ top) events i no_event below sound.latest) other chain, sound.whole)

-- each number of a chain is one of an event
rest_below : (events : List Event) (i : ℕ) (rest : List ℕ) → GoesOn events i rest → All (λ j. j < length events) rest
rest_below events i [] goes = All-nil (λ j. j < length events)
rest_below events i (j ∷ rest) goes = All-cons (λ k. k < length events) j rest goes.0 (rest_below events j rest goes.1.1)

pub numbers_below : (events : List Event) (list : List ℕ) → IsChain events list → All (λ j. j < length events) list
numbers_below events [] chain = absurd chain
numbers_below events (i ∷ rest) chain = All-cons (λ k. k < length events) i rest chain.0 (rest_below events i rest chain.1)
