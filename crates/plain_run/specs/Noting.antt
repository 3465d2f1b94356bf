-- The run beside what is noted of its harts.
use Rattle.std.specs.Prelude.{◌≡◌, ℕ, suc, ◌<◌, ◌≤◌, ◌^◌, true, List, length, map, None, IsSome}
use Rattle.std.specs.List.{range_with_len}
use Rattle.coz_types.specs.declared.TheConstants.{HARTS}
use Rattle.coz_types.specs.declared.ending.Ending.{Ending}
use Rattle.coz_types.specs.Image.{ImageParts}
use Rattle.machines.specs.Places.{is_among}
use Rattle.timed_guest.specs.Orderly.{IsOrderly}
use Rattle.run_engine.specs.declared.choice.Setting.{Setting}
use Rattle.run_engine.specs.declared.engine.Engine.{Engine}
use Rattle.run_engine.specs.declared.engine.Event.{Event}
use Rattle.run_engine.specs.declared.engine.Event.TheVariants.{Woke, Retired}
use Rattle.run_engine.specs.Engine.{IsEngineOf, IsFirst, events_of}
use Rattle.run_engine.specs.Run.{IsSetting, experiment_in}
use Rattle.ready_ticks.specs.declared.waits.Wait.{Wait}
use Rattle.ready_ticks.specs.Ready.{Course, waited}
use Rattle.ready_ticks.specs.Waits.{AreTold, Passes, ticks_at, wait_of}
use Rattle.plain_run.specs.declared.run.PlainRun.{PlainRun as Left}
use Rattle.plain_run.specs.PlainRun.{AreUndelayed, timed_course}

-- the engine begins the run of some image on some input
pub record IsFirstOfSome (setting : Setting) (engine : Engine) : Type 0 where
  pub image : ImageParts
  pub input : List ℕ
  pub first : IsFirst setting image input engine

-- a move has led to this engine, and can be noted
abbrev pub CanNote : Engine → Event → List Wait → Type 0
CanNote engine (Woke turn) waits = Unit {0}
CanNote engine (Retired retired) waits =
    engine.ending ≡ None
    → ((k : ℕ) → is_among k engine.started ≡ true → k < HARTS)
    × ((hart : ℕ) → ticks_at engine.time (wait_of waits hart) < 2 ^ 64)

-- it is noted: what tells of the moves before it in any course tells of it too, unless it ends
-- the run
abbrev pub IsNoted : Engine → Event → ℕ → List Wait → List Wait → Type 0
IsNoted engine (Woke turn) before old new = new ≡ old
IsNoted engine (Retired retired) before old new =
    (IsSome engine.ending → new ≡ old)
    × (engine.ending ≡ None → (c : Course) (n : ℕ) (entered : List ℕ)
    → AreTold c n old → length (c.line n) ≡ before
    → c.line (suc n) ≡ engine.guest.beside.seats.ready
    → Passes c n engine.time entered engine.started → AreTold c (suc n) new)

-- the engine has made some moves of the run, and what is noted tells of them
pub record IsWalked (image : ImageParts) (input : List ℕ) (setting : Setting)
    (engine : Engine) (waits : List Wait) : Type 0 where
  pub valid : IsSetting setting
  pub reached : IsEngineOf (experiment_in image input setting) engine
  pub orderly : IsOrderly engine.guest
  pub undelayed : AreUndelayed engine.visits.kept
  pub soon : engine.time ≤ 10 ^ 17
  pub told : engine.ending ≡ None
      → AreTold (timed_course (experiment_in image input setting)) (events_of engine) waits
  pub ticks : (hart : ℕ) → ticks_at engine.time (wait_of waits hart)
      ≡ waited (timed_course (experiment_in image input setting)) hart (events_of engine)

-- what is kept of an engine whose run has ended so
pub record IsLeft (engine : Engine) (waits : List Wait) (ending : Ending)
    (run : Left) : Type 0 where
  pub outcome : run.outcome ≡ record {
    ending = ending;
    time = engine.time;
    delay = 0;
    retired = engine.retired;
    starts = engine.starts;
  }
  pub visits : run.visits.items ≡ engine.visits.kept
  pub output : run.output.items ≡ engine.guest.guest.output
  pub ready : run.ready.items
      ≡ map (λ hart. ticks_at engine.time (wait_of waits hart))
      (range_with_len 0 (length engine.guest.guest.harts))
