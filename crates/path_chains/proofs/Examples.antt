-- Chains of small lists of events, computed.
use Rattle.std.proofs.Common.{◌≡◌, ℕ, List, [], ◌∷◌, Option, Some, None, refl}
use Rattle.path_chains.specs.declared.event.Event.{Event}
use Rattle.path_chains.specs.Path.{weight, chain_of}

abbrev event : ℕ → ℕ → ℕ → Option ℕ → Option ℕ → ℕ → Event
event hart cost slept from before due = record {
  hart = record { 0 = hart };
  address = 0;
  cost = cost;
  slept = slept;
  from = from;
  before = before;
  due = due;
}

-- hart 0 makes hart 1, whose first instruction takes longer, and waits; hart 1 wakes it
abbrev two_harts : List Event
two_harts =
    event 0 4000 0 None None 4000
    ∷ event 0 100 0 (Some 0) (Some 0) 4100
    ∷ event 1 500 0 (Some 0) None 4500
    ∷ event 0 100 0 (Some 2) (Some 1) 4600
    ∷ []

goes_over_the_wake : chain_of two_harts ≡ 0 ∷ 2 ∷ 3 ∷ []
unfolding chain_of
goes_over_the_wake = refl

weighs_as_long_as_it_took : weight two_harts (chain_of two_harts) ≡ 4600
unfolding chain_of
weighs_as_long_as_it_took = refl

-- the hart that waited weighs less
stays_on_its_hart : weight two_harts (0 ∷ 1 ∷ 3 ∷ []) ≡ 4200
stays_on_its_hart = refl

-- one hart sleeps 5000 ticks
abbrev one_sleeper : List Event
one_sleeper = event 0 4000 0 None None 4000 ∷ event 0 100 5000 (Some 0) (Some 0) 9100 ∷ []

sleeps : chain_of one_sleeper ≡ 0 ∷ 1 ∷ []
unfolding chain_of
sleeps = refl

slept_is_weighed : weight one_sleeper (chain_of one_sleeper) ≡ 9100
unfolding chain_of
slept_is_weighed = refl

no_events : chain_of [] ≡ []
unfolding chain_of
no_events = refl
