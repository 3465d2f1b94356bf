-- Chains of events, when a chain shows how long a run was, and the chain that is shown of a run.
use Rattle.std.specs.Prelude.{◌≡◌, ℕ, zero, suc, ◌+◌, ◌-◌, ◌≤◌, ◌<◌, ◌⊎◌, ◌++◌, List, [], ◌∷◌, length, sum_by, All, slice_get, slice_index_or, EachIndex, Option, Some, None}
use Rattle.std.specs.Option.{ForSome}
use Rattle.path_chains.specs.declared.TheConstants.{MAX_EVENTS}
use Rattle.path_chains.specs.declared.event.Event.{Event}

-- what stands in place of an event if there is none
abbrev pub no_event : Event
no_event = record {
  hart = record { 0 = 0 };
  address = 0;
  cost = 0;
  slept = 0;
  from = None;
  before = None;
  due = 0;
}

-- the event of a number
abbrev pub event_at : List Event → ℕ → Event
event_at events i = slice_index_or events i no_event

-- the number of the last event, if there is one
abbrev pub last_of : List Event → ℕ
last_of events = length events - 1

-- what an event adds to a chain: its work, and how long it slept before
abbrev pub ticks : Event → ℕ
ticks e = e.cost + e.slept

-- the weight of a chain
abbrev pub weight : List Event → List ℕ → ℕ
weight events chain = sum_by (λ i. ticks (event_at events i)) chain

-- an event may come after that number in a chain
abbrev pub Follows : Event → ℕ → Type 0
Follows e i = (e.from ≡ Some i) ⊎ (e.before ≡ Some i)

-- these numbers may come after number i in a chain
abbrev pub GoesOn : List Event → ℕ → List ℕ → Type 0
GoesOn events i [] = Unit {0}
GoesOn events i (j ∷ js) =
    (j < length events) × (Follows (event_at events j) i × GoesOn events j js)

-- numbers of events, at least one, of which each later event has the number ahead of it in the
-- list as its `from` or `before`
abbrev pub IsChain : List Event → List ℕ → Type 0
IsChain events [] = ⊥
IsChain events (i ∷ is) = (i < length events) × GoesOn events i is

-- number p is below that of the event, which is no sooner than its ticks after p's
pub record IsBehind (events : List Event) (i : ℕ) (p : ℕ) : Type 0 where
  pub lower : p < i
  pub later : (event_at events p).due + ticks (event_at events i) ≤ (event_at events i).due

-- an event is due no sooner than what it waited for allows
pub record IsTimely (events : List Event) (i : ℕ) : Type 0 where
  pub from : ForSome (event_at events i).from (IsBehind events i)
  pub before : ForSome (event_at events i).before (IsBehind events i)
  pub first : (event_at events i).from ≡ None → (event_at events i).before ≡ None
      → ticks (event_at events i) ≤ (event_at events i).due

-- the chain shows that the events take as long as they do
pub record Sound (events : List Event) (list : List ℕ) : Type 0 where
  pub chain : IsChain events list
  pub ends : slice_get list (length list - 1) ≡ Some (last_of events)
  pub timely : EachIndex events (IsTimely events)
  pub latest : All (λ e. e.due ≤ (event_at events (last_of events)).due) events
  pub whole : weight events list ≡ (event_at events (last_of events)).due

-- when an event was due, by its `from`
abbrev pub IsDue : List Event → ℕ → Option ℕ → Type 0
IsDue events i None =
    ((event_at events i).due ≡ ticks (event_at events i)) × ((event_at events i).before ≡ None)
IsDue events i (Some p) =
    (p < i)
    × ((event_at events i).due ≡ (event_at events p).due + ticks (event_at events i))

-- the events of a run hang together
pub record Linked (events : List Event) : Type 0 where
  pub some : 1 ≤ length events
  pub few : length events ≤ MAX_EVENTS
  pub rising : (i j : ℕ) → i ≤ j → j < length events
      → (event_at events i).due ≤ (event_at events j).due
  pub due : EachIndex events (λ i. IsDue events i (event_at events i).from)
  pub before : EachIndex events (λ i. ForSome (event_at events i).before (IsBehind events i))

-- back along `from` from an event, through at most n events
abbrev pub chain_to : List Event → Option ℕ → ℕ → List ℕ
chain_to events None n = []
chain_to events (Some i) zero = []
chain_to events (Some i) (suc n) = chain_to events (event_at events i).from n ++ i ∷ []

-- the chain that is shown of a run: back along `from` from the last event
unfoldable pub chain_of : List Event → List ℕ
chain_of events = chain_to events (Some (last_of events)) (length events)
