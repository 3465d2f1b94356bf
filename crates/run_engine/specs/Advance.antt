-- One move of the engine of both machines.
use Rattle.std.specs.Prelude.{◌≡◌, ℕ, ◌+◌, ◌^◌, ◌≤◌, ◌<◌, ◌++◌, Bool, true, false, List, [], ◌∷◌, length, nat_le, Option, Some, None, IsSome}
use Rattle.coz_types.specs.declared.TheConstants.{MAX_SPEEDUP, HARTS}
use Rattle.coz_types.specs.declared.ending.Ending.{Ending}
use Rattle.hart_schedule.specs.Keys.{Keys, key_of, IsLeast}
use Rattle.machines.specs.declared.Fate.{Fate}
use Rattle.machines.specs.declared.Fate.TheVariants.{Sleeps}
use Rattle.machines.specs.Shortened.{move}
use Rattle.progress_points.specs.Points.{point_of}
use Rattle.timed_guest.specs.Guest.{Timed, pc_of, is_running, is_sleeping, with_wake}
use Rattle.timed_guest.specs.Retire.{retire, retirement}
use Rattle.run_engine.specs.declared.choice.Setting.{Setting}
use Rattle.run_engine.specs.declared.engine.Event.{Event}
use Rattle.run_engine.specs.declared.engine.Event.TheVariants.{Woke, Retired}
use Rattle.run_engine.specs.declared.engine.Engine.{Engine}
use Rattle.run_engine.specs.Begin.{last_moment, started_by, keys_at_rest, many, AreIdle, AreBegun}
use Rattle.run_engine.specs.Ending.{ending_of, runs_after}
use Rattle.run_engine.specs.Run.{timed_from, selected_of, ticks_in}
use Rattle.run_engine.specs.Engine.{events_of, state_of, AreDues, AreWithin, IsStateOf}
use Rattle.run_engine.specs.Visits.{visits_of}

-- no hart's next instruction takes more ticks
abbrev pub AreTicks : ℕ → Setting → Timed → Type 0
AreTicks most setting t = (hart : ℕ) → ticks_in setting t hart ≤ most

-- in a setting this engine becomes that one as a hart retires to this fate,
-- if a visit is kept with this delay
pub record IsRetired (setting : Setting) (engine : Engine) (hart : ℕ) (fate : Fate) (delay : ℕ)
    (new : Engine) : Type 0 where
  -- a move of the shortened machine, whatever its guest began as
  pub moved : (first : Timed) (dues : List (Option ℕ)) → AreDues engine.schedule dues
      → IsStateOf new (move (timed_from first (point_of setting.points.now) setting.choice) (state_of engine dues))
  -- the hart is the one that is due first
  pub turn : key_of engine.schedule hart ≡ Some new.time
  pub first : IsLeast engine.schedule hart
  pub running : is_running engine.guest hart ≡ true
  pub retires : retirement new.guest fate new.started ≡ retire engine.guest hart new.time
  pub visits : new.visits ≡ record engine.visits {
    kept = engine.visits.kept ++ visits_of (point_of setting.points.now (pc_of engine.guest hart))
        hart (new.time + delay) delay;
  }
  pub ending : new.ending ≡ ending_of fate
      (nat_le setting.choice.output_limit (length new.guest.guest.output))
      (nat_le setting.choice.visit_limit (length new.visits.kept))
      (runs_after fate new.started (keys_at_rest hart fate engine.schedule))
      new.retired setting.choice.budget
  pub unfull : new.ending ≡ None → length new.visits.kept < setting.choice.visit_limit
  pub selected : new.ending ≡ None
      → new.selected ≡ selected_of setting new.guest (started_by hart fate new.started)
  pub none_selected : IsSome new.ending → new.selected ≡ []
  pub room : length new.schedule ≡ HARTS
  pub retired : new.retired ≡ engine.retired + 1
  pub wakes : new.wakes ≡ engine.wakes
  pub few : new.starts ≤ events_of new + many new.schedule
  -- no wake is later than at 10^16
  pub within : (most : ℕ) → AreTicks most setting new.guest
      → (moment : ℕ) → 10 ^ 16 ≤ moment → AreWithin moment engine.schedule
      → AreWithin (moment + most) new.schedule

-- how its run ends with a retirement to this fate, if those are the keys of the harts
-- that stay in the schedule
abbrev pub told_in : Setting → Fate → Engine → Keys → Option Ending
told_in setting fate engine keys =
    ending_of fate
    (nat_le setting.choice.output_limit (length engine.guest.guest.output))
    (nat_le setting.choice.visit_limit (length engine.visits.kept))
    (runs_after fate engine.started keys)
    engine.retired setting.choice.budget

-- a hart has retired to this fate, and the engine has not yet settled it: if it doesn't end with
-- that, each hart that was started may begin
pub record CanComplete (setting : Setting) (engine : Engine) (hart : ℕ) (fate : Fate) : Type 0 where
  pub goes : engine.ending ≡ None
  pub below : hart < length engine.schedule
  pub idle : told_in setting fate engine (keys_at_rest hart fate engine.schedule) ≡ None
      → AreIdle engine.guest (keys_at_rest hart fate engine.schedule)
      (started_by hart fate engine.started)
  pub moment : engine.time ≤ last_moment
  pub wake : (moment : ℕ) → fate ≡ Sleeps moment → moment ≤ last_moment
  pub speedup : setting.choice.speedup ≤ MAX_SPEEDUP
  pub room : length engine.schedule ≡ HARTS
  pub selected : engine.selected ≡ []
  pub few : engine.starts ≤ 2 ^ 62

-- what a retirement to this fate started has begun, at its moment
pub record HasBegun (setting : Setting) (engine : Engine) (hart : ℕ) (fate : Fate)
    (new : Engine) : Type 0 where
  pub begun : AreBegun (ticks_in setting engine.guest) engine.time
      (started_by hart fate engine.started) (keys_at_rest hart fate engine.schedule) new.schedule
  pub selected : new.selected
      ≡ selected_of setting engine.guest (started_by hart fate engine.started)
  pub room : length new.schedule ≡ HARTS
  pub starts : new.starts ≡ engine.starts + length new.selected
  pub few : length new.selected + many (keys_at_rest hart fate engine.schedule) ≤ many new.schedule
  pub rest : new ≡ record engine {
    schedule = new.schedule;
    selected = new.selected;
    starts = new.starts;
  }

-- an engine whose guest, visits and counts are those after a retirement to this fate becomes
-- that one: it ends, or what was started begins
pub record IsCompleted (setting : Setting) (engine : Engine) (hart : ℕ) (fate : Fate)
    (new : Engine) : Type 0 where
  pub ending : new.ending ≡ told_in setting fate engine (keys_at_rest hart fate engine.schedule)
  pub ended : IsSome new.ending
      → new ≡ record engine
      { schedule = keys_at_rest hart fate engine.schedule; ending = new.ending }
  pub begun : new.ending ≡ None → HasBegun setting engine hart fate new

-- it becomes that one as a sleeping hart wakes at this moment, and its next instruction begins
pub record IsWoken (setting : Setting) (engine : Engine) (hart moment : ℕ)
    (new : Engine) : Type 0 where
  pub moved : (first : Timed) (dues : List (Option ℕ)) → AreDues engine.schedule dues
      → IsStateOf new (move (timed_from first (point_of setting.points.now) setting.choice) (state_of engine dues))
  pub turn : key_of engine.schedule hart ≡ Some moment
  pub first : IsLeast engine.schedule hart
  pub asleep : is_sleeping engine.guest hart ≡ true
  pub guest : new.guest ≡ with_wake hart engine.guest
  pub selected : new.selected ≡ selected_of setting new.guest (hart ∷ [])
  pub wakes : new.wakes ≡ engine.wakes + 1
  pub room : length new.schedule ≡ HARTS
  pub few : new.starts ≤ events_of new + many new.schedule
  pub within : (most : ℕ) → AreTicks most setting new.guest
      → (moment : ℕ) → AreWithin moment engine.schedule
      → AreWithin (moment + most) new.schedule
  -- nothing is visited, nor retired, nor ended
  pub rest : new ≡ record engine {
    guest = new.guest;
    schedule = new.schedule;
    selected = new.selected;
    wakes = new.wakes;
    starts = new.starts;
  }

abbrev pub is_wake : Event → Bool
is_wake (Woke turn) = true
is_wake (Retired retired) = false

-- one event: the hart that is due first wakes or retires
abbrev pub IsAdvance : Setting → Engine → Event → ℕ → Engine → Type 0
IsAdvance setting engine (Woke turn) delay new = IsWoken setting engine turn.hart.0 turn.due new
IsAdvance setting engine (Retired retired) delay new =
    IsRetired setting engine retired.hart.0 retired.fate delay new
