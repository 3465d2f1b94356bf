-- The delayed run of a program.
use Rattle.std.specs.Prelude.{◌≡◌, ℕ, ◌+◌, ◌-◌, ◌^◌, ◌≤◌, ◌<◌, List, map, filter, length, slice_index_or, slice_get, Option, Some, None, option_map}
use Rattle.coz_types.specs.declared.TheConstants.{HARTS}
use Rattle.coz_types.specs.declared.ending.Ending.{Ending}
use Rattle.coz_types.specs.declared.ending.Ending.TheVariants.{Exited, Trapped, Unsupported, Clock, OutputFull, VisitsFull, Stalled, Spent}
use Rattle.coz_types.specs.declared.record.Outcome.{Outcome}
use Rattle.coz_types.specs.Image.{ImageParts}
use Rattle.machines.specs.Guest.{Experiment}
use Rattle.machines.specs.Delayed.{Account, Delayed, idle_hart, events, delayed}
use Rattle.machines.specs.KeptVisits.{visit_as}
use Rattle.machines.specs.Shortened.{shortened}
use Rattle.machines.specs.Agreement.{Agrees, LoadsAreTimed}
use Rattle.machines.specs.Records.{Record, IsDelayed}
use Rattle.machines.specs.Steps.{Steps, Passes}
use Rattle.machines.specs.Standing.{standing}
use Rattle.machines.specs.Lead.{before}
use Rattle.delay_credits.specs.Delays.{Delays}
use Rattle.timed_guest.specs.Guest.{Timed, making}
use Rattle.run_engine.specs.declared.choice.Setting.{Setting}
use Rattle.run_engine.specs.declared.engine.Event.{Event}
use Rattle.run_engine.specs.declared.engine.Event.TheVariants.{Woke, Retired}
use Rattle.run_engine.specs.declared.engine.Engine.{Engine}
use Rattle.run_engine.specs.Run.{IsSetting, experiment_in}
use Rattle.run_engine.specs.Engine.{events_of, IsEngineOf}
use Rattle.virtual_run.specs.Credited.{Holds}

-- the net moment at which a hart of a run that goes on retires: as many ticks from now on as it
-- works and pauses before it, less the global delay
abbrev pub net_due_of : {G : Type 0} → Delayed G → ℕ → Option ℕ
net_due_of d hart =
    elim (d.ending) [
      | None ↦ option_map (λ load. d.now + load.work + load.pause - d.delay)
          (slice_index_or d.harts hart idle_hart).load
      | Some ending ↦ None
    ]

-- the account of a hart that was made
abbrev pub account_in : {G : Type 0} → Delayed G → ℕ → Option Account
account_in d hart = option_map (λ h. h.account) (slice_get d.harts hart)

-- how a run that has ended came out
abbrev pub outcome_of : {G : Type 0} → Delayed G → Option Outcome
outcome_of d =
    option_map (λ ending. record {
      ending = ending;
      time = d.now;
      delay = d.delay;
      retired = d.retired;
      starts = d.starts;
    }) d.ending

-- a trap is that of one of the harts
abbrev pub IsOfAHart : Ending → Type 0
IsOfAHart (Exited code) = Unit {0}
IsOfAHart (Trapped trap) = trap.hart.0 < HARTS
IsOfAHart (Unsupported number) = Unit {0}
IsOfAHart Clock = Unit {0}
IsOfAHart OutputFull = Unit {0}
IsOfAHart VisitsFull = Unit {0}
IsOfAHart Stalled = Unit {0}
IsOfAHart Spent = Unit {0}

-- the numbers of an outcome are small
pub record IsSmall (o : Outcome) : Type 0 where
  pub ending : IsOfAHart o.ending
  pub time : o.time ≤ 10 ^ 17
  pub retired : o.retired ≤ 10 ^ 17
  pub starts : o.starts ≤ 10 ^ 17

-- what an event takes the machine through: moves that end with a wake, without a retirement,
-- or those that end with the next retirement
abbrev pub Happens : Experiment Timed → Event → Delayed Timed → Delayed Timed → Type 0
Happens x (Woke turn) old new = Passes x old new × (new.ending ≡ None)
Happens x (Retired retired) old new = Steps x old new

-- before each move of the delayed run it agrees with the shortened one after as many
-- retirements and wakes, and until the run ends the harts with a load are those that run or sleep
pub record AgreesThroughout (x : Experiment Timed) : Type 0 where
  pub agrees : (moves : ℕ) → Agrees (delayed x moves) (shortened x (events (delayed x moves)))
  pub timed : (moves : ℕ) → LoadsAreTimed x.guest (delayed x moves)

-- the delayed run ends, and with one record alone
abbrev pub EndsOnce : Experiment Timed → Type 0
EndsOnce x = (r : Record) × IsDelayed x r × ((other : Record) → IsDelayed x other → other ≡ r)

-- the setting is within the limits, and the fields stand for the state after as many retirements
-- and wakes as the engine counts
pub record IsPaced (image : ImageParts) (input : List ℕ) (setting : Setting) (engine : Engine)
    (credits : Delays) (now : ℕ) : Type 0 where
  pub valid : IsSetting setting
  pub reached : IsEngineOf (experiment_in image input setting) engine
  pub holds : Holds credits (standing (experiment_in image input setting) (events_of engine))
  pub room : length credits.harts ≡ HARTS
  pub visits : map visit_as engine.visits.kept
      ≡ (standing (experiment_in image input setting) (events_of engine)).visits
  pub moment : now ≡ (standing (experiment_in image input setting) (events_of engine)).now
  pub soon : now ≤ 10 ^ 17
  pub trap : (ending : Ending) → engine.ending ≡ Some ending → IsOfAHart ending
  -- what a fork copies, and what it raises the delay by
  pub made : making engine.guest ≡ making (experiment_in image input setting).first
  pub selected : engine.selected
      ≡ filter ((experiment_in image input setting).guest.is_selected engine.guest)
      (before (experiment_in image input setting) (events_of engine)).harts
