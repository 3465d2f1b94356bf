-- The state of the engine of both machines: a state of the shortened machine,
-- and what holds between its moves.
use Rattle.std.specs.Prelude.{◌≡◌, ℕ, ◌+◌, ◌*◌, ◌^◌, ◌≤◌, ◌<◌, ◌==◌, max, if◌then◌else◌, List, [], ◌∷◌, map, length, get_or, Option, Some, None, is_some}
use Rattle.coz_types.specs.declared.TheConstants.{HARTS}
use Rattle.coz_types.specs.Image.{ImageParts}
use Rattle.hart_schedule.specs.Keys.{Keys, key_of, IsEmpty}
use Rattle.machines.specs.Guest.{Experiment}
use Rattle.machines.specs.Shortened.{Shortened, shortened}
use Rattle.timing_model.specs.declared.timing.Timing.{Timing}
use Rattle.timing_model.specs.declared.costs.Costs.{Costs}
use Rattle.timed_guest.specs.Guest.{Timed, is_timed}
use Rattle.timed_guest.specs.Orderly.{IsOrderly}
use Rattle.timed_guest.specs.Counts.{CountsWithin}
use Rattle.run_engine.specs.declared.choice.Setting.{Setting}
use Rattle.run_engine.specs.declared.engine.Engine.{Engine}
use Rattle.run_engine.specs.Begin.{last_moment, many}
use Rattle.run_engine.specs.Run.{experiment_in, selected_of}
use Rattle.machines.specs.KeptVisits.{net_of}

-- the cycles of the dearest class
abbrev pub most_cost : Costs → ℕ
most_cost c =
    max c.integer
    (max c.jump (max c.load (max c.multiply (max c.atomic (max c.divide c.ecall)))))

-- no instruction takes more ticks on a machine: jitter doubles its cycles
abbrev pub most_ticks : Timing → ℕ
most_ticks t = if t.seed == 0 then 100 * most_cost t.costs else 200 * most_cost t.costs

-- the retirements and wakes so far
abbrev pub events_of : Engine → ℕ
events_of engine = engine.retired + engine.wakes

-- the state of the shortened machine by the engine's fields, with these moments
-- at which harts are due
abbrev pub state_of : Engine → List (Option ℕ) → Shortened Timed
state_of engine dues = record {
  time = engine.time;
  guest = engine.guest;
  dues = dues;
  visits = map net_of engine.visits.kept;
  retired = engine.retired;
  wakes = engine.wakes;
  starts = engine.starts;
  ending = engine.ending;
}

-- the keys are these moments
abbrev pub AreDues : Keys → List (Option ℕ) → Type 0
AreDues keys dues = (hart : ℕ) → key_of keys hart ≡ get_or dues hart None

-- the fields hold this state
pub record IsStateOf (engine : Engine) (s : Shortened Timed) : Type 0 where
  pub state : s ≡ state_of engine s.dues
  pub dues : AreDues engine.schedule s.dues

-- no hart is due later
abbrev pub AreWithin : ℕ → Keys → Type 0
AreWithin moment keys = (hart due : ℕ) → key_of keys hart ≡ Some due → due ≤ moment

-- between the moves of a run that goes on: the harts that run or sleep are those that are due
pub record IsSteady (engine : Engine) : Type 0 where
  pub goes : engine.ending ≡ None
  pub orderly : IsOrderly engine.guest
  pub timed : (hart : ℕ) → is_timed engine.guest hart ≡ is_some (key_of engine.schedule hart)
  pub some_hart : ¬ IsEmpty engine.schedule
  pub room : length engine.schedule ≡ HARTS
  pub unfull : length engine.visits.kept < engine.visits.limit
  pub within : AreWithin last_moment engine.schedule
  pub retired : engine.retired ≤ 2 ^ 60
  pub wakes : engine.wakes ≤ 2 ^ 60
  pub few : engine.starts ≤ events_of engine + many engine.schedule
  -- what the machine counts is small
  pub counts : CountsWithin (events_of engine) engine.guest

-- its guest is on the machine of a setting, with the lines of the setting
pub record IsOnMachine (setting : Setting) (engine : Engine) : Type 0 where
  pub timing : engine.guest.beside.timing ≡ setting.timing
  pub lines : engine.guest.index ≡ setting.index.now

-- the engine of a run of x: its fields hold the state after as many moves as instructions were
-- retired and harts woken
pub record IsEngineOf (x : Experiment Timed) (engine : Engine) : Type 0 where
  pub reached : IsStateOf engine (shortened x (events_of engine))
  pub room : length engine.schedule ≡ HARTS
  pub limit : engine.visits.limit ≡ x.visit_limit
  pub unfull : engine.ending ≡ None → length engine.visits.kept < x.visit_limit
  pub retired : engine.retired ≤ x.budget
  pub few : engine.starts ≤ events_of engine + many engine.schedule
  -- a hart sleeps to a moment of at most 10^16, and each event takes at most an instruction's ticks
  pub within : AreWithin
      (10 ^ 16 + most_ticks x.first.beside.timing * (events_of engine + 1)) engine.schedule

-- as it begins the run of an image on an input
pub record IsFirst (setting : Setting) (image : ImageParts) (input : List ℕ)
    (engine : Engine) : Type 0 where
  pub reached : IsEngineOf (experiment_in image input setting) engine
  pub retired : engine.retired ≡ 0
  pub wakes : engine.wakes ≡ 0
  pub ending : engine.ending ≡ None
  pub kept : engine.visits.kept ≡ []
  pub selected : engine.selected ≡ selected_of setting engine.guest (0 ∷ [])
