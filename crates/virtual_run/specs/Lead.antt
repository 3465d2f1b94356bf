-- Leads: what stands before a beginning, which each speedup goes on from.
use Rattle.std.specs.Prelude.{◌≡◌, ℕ, ◌-◌, ◌&&◌, ◌==◌, Bool, not, List, [], ◌∷◌, filter, Option, Some, None, is_some}
use Rattle.hart_schedule.specs.Keys.{Keys, key_of, with_key, without_key}
use Rattle.machines.specs.Guest.{Experiment}
use Rattle.machines.specs.Delayed.{Delayed, is_any, events, delayed}
use Rattle.machines.specs.Standing.{standing}
use Rattle.machines.specs.Lead.{Before, at_speedup, before}
use Rattle.timed_guest.specs.Guest.{Timed}
use Rattle.run_engine.specs.Seen.{Seen, experiment_of}
use Rattle.run_engine.specs.Run.{IsChoice, IsMachine}

-- what a run was made with, apart from the selected line and the speedup
abbrev pub arguments : {State : Type 0} → Seen State → Seen (Unit {0})
arguments seen = record {
  image = seen.image;
  index = seen.index;
  points = seen.points;
  timing = seen.timing;
  input = seen.input;
  choice = record seen.choice { selected = None; speedup = 0 };
  state = tt;
}

-- the run goes on, and no start was counted
abbrev pub is_unstarted : Delayed Timed → Bool
is_unstarted d = not (is_some d.ending) && (d.starts == 0)

-- some hart that begins next has the selected line
abbrev pub starts_next : Experiment Timed → Before Timed → Bool
starts_next x b = is_any (filter (x.guest.is_selected b.state.guest) b.harts)

-- it stands before the beginning that follows some number of retirements and wakes,
-- and no start was counted
pub record Stands (x : Experiment Timed) (b : Before Timed) : Type 0 where
  pub events : ℕ
  pub is : b ≡ before x events
  pub none : b.state.starts ≡ 0

-- it stands so at every speedup, and each state that the delayed machine reaches with no start
-- counted is one that it reaches at every speedup
pub record IsShared (x : Experiment Timed) (b : Before Timed) : Type 0 where
  pub stands : (speedup : ℕ) → Stands (at_speedup speedup x) b
  pub states : (speedup moves : ℕ) → (delayed x moves).starts ≡ 0
      → delayed x moves ≡ delayed (at_speedup speedup x) moves

-- a hart that is due becomes due `ticks` ticks sooner
abbrev pub sooner_by : Option ℕ → ℕ → ℕ → Keys → Keys
sooner_by None ticks h keys = keys
sooner_by (Some due) ticks h keys = with_key h (due - ticks) (without_key h keys)

-- each of these harts is, by its own ticks
abbrev pub with_sooner : (ℕ → ℕ) → List ℕ → Keys → Keys
with_sooner ticks [] keys = keys
with_sooner ticks (h ∷ hs) keys = with_sooner ticks hs (sooner_by (key_of keys h) (ticks h) h keys)

-- a machine at speedup 0 stands after the beginning that its lead stands before
pub record IsLead (m : Seen (Delayed Timed)) : Type 0 where
  pub valid : IsChoice m.choice
  pub machine : IsMachine m.timing m.choice.budget
  pub whole : m.choice.speedup ≡ 0
  pub stands : m.state ≡ standing (experiment_of m) (events m.state)
  pub none : (before (experiment_of m) (events m.state)).state.starts ≡ 0
