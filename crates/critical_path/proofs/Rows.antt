-- Events of small runs, computed.
use Rattle.std.proofs.Common.{◌≡◌, ℕ, suc, ◌==◌, if◌then◌else◌, false, List, [], ◌∷◌, get_or, Option, Some, None, refl}
use Rattle.machines.specs.declared.Fate.{Fate}
use Rattle.machines.specs.declared.Fate.TheVariants.{Goes, Waits}
use Rattle.machines.specs.Guest.{Experiment}
use Rattle.machines.proofs.Computed.{moves_on_literals}
use Rattle.machines.proofs.Small.{Instruction, plain, naps, exits, run_of, gone}
use Rattle.path_chains.specs.declared.event.Event.{Event}
use Rattle.path_chains.specs.Path.{chain_of}
use Rattle.critical_path.specs.Events.{traced}

abbrev pub event : ℕ → ℕ → ℕ → ℕ → Option ℕ → Option ℕ → ℕ → Event
event hart address cost slept from before due = record {
  hart = record { 0 = hart };
  address = address;
  cost = cost;
  slept = slept;
  from = from;
  before = before;
  due = due;
}

-- a guest that does in turn what a script says; hart 1 is slow
abbrev pub scripted : List Fate → List (List ℕ) → Experiment ℕ
scripted fates others = record {
  guest = record {
    retire = λ g h v. record { guest = suc g; fate = get_or fates g Goes; others = get_or others g [] };
    is_running = λ g h. false;
    is_sleeping = λ g h. false;
    wake = λ g h. g;
    sleepers = λ g. 0;
    cycles = λ g h. if h == 1 then 5 else 1;
    is_selected = λ g h. false;
    point = λ g h. None;
    output = λ g. [];
  };
  first = 0;
  speedup = 0;
  budget = 100;
  visit_limit = 1;
  output_limit = 1;
}

-- hart 0 makes hart 1 and waits, and hart 1 wakes it
abbrev pub waits : Experiment ℕ
waits = scripted (Goes ∷ Waits ∷ []) ((1 ∷ []) ∷ [] ∷ (0 ∷ []) ∷ [])

wait_events : (traced waits (λ g h. g) 4).events
    ≡ event 0 0 100 0 None None 100
    ∷ event 0 1 100 0 (Some 0) (Some 0) 200
    ∷ event 1 2 500 0 (Some 0) None 600
    ∷ event 0 3 100 0 (Some 2) (Some 1) 700
    ∷ []
unfolding traced moves_on_literals
wait_events = refl

-- the slow hart is on the way
wait_chain : chain_of (traced waits (λ g h. g) 4).events ≡ 0 ∷ 2 ∷ 3 ∷ []
unfolding traced moves_on_literals chain_of
wait_chain = refl

-- the only hart sleeps 5000 ticks, from the moment of its call on
abbrev pub naps_once : List Instruction
naps_once = plain 1 1 ∷ naps 5000 2 ∷ exits ∷ []

nap_events : (traced (run_of naps_once 0 100) (λ g h. (get_or g h gone).at) 4).events
    ≡ event 0 0 100 0 None None 100
    ∷ event 0 1 4000 0 (Some 0) (Some 0) 4100
    ∷ event 0 2 4000 5000 (Some 1) (Some 1) 13100
    ∷ []
unfolding traced moves_on_literals
nap_events = refl
