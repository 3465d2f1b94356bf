-- What is known of each hart, brought up to a move of the engine.
use Rattle.std.specs.Prelude.{◌≡◌, ℕ, ◌+◌, ◌-◌, ◌^◌, ◌≤◌, ◌<◌, true, List, ◌∷◌, [], ◌++◌, length, None, unwrap_or, IsSome, if◌then◌else◌, ◌==◌}
use Rattle.std.specs.Option.{ForSome}
use Rattle.coz_types.specs.declared.TheConstants.{HARTS}
use Rattle.hart_schedule.specs.Keys.{Keys, key_of}
use Rattle.machines.specs.Places.{is_among}
use Rattle.machines.specs.Guest.{IsLater}
use Rattle.run_engine.specs.declared.engine.Engine.{Engine}
use Rattle.run_engine.specs.declared.engine.Event as moves
use Rattle.run_engine.specs.declared.engine.Event.TheVariants.{Woke, Retired}
use Rattle.run_engine.specs.Begin.{started_by}
use Rattle.path_causes.specs.declared.cause.Cause.{Cause}
use Rattle.path_chains.specs.declared.event.Event.{Event}
use Rattle.path_causes.specs.Causes.{cause_at, woken_with, turned}

-- a hart that is due isn't due before a moment
abbrev pub IsBegun : Keys → ℕ → ℕ → Type 0
IsBegun keys moment hart = ForSome (key_of keys hart) (λ due. moment ≤ due)

-- the ticks for which a hart was begun at a moment
abbrev pub ticks_from : Keys → ℕ → ℕ → ℕ
ticks_from keys moment hart = unwrap_or (key_of keys hart) 0 - moment

-- a move has led to this engine, and what is known before it can be brought up to it
abbrev pub CanRecord : Engine → moves.Event → List Cause → List Event → Type 0
CanRecord engine (Woke turn) causes events =
    (length causes ≡ HARTS) × (turn.hart.0 < HARTS)
    × ((cause_at causes turn.hart.0).slept + (cause_at causes turn.hart.0).cost < 2 ^ 64)
    × IsBegun engine.schedule turn.due turn.hart.0
CanRecord engine (Retired retired) causes events =
    (length causes ≡ HARTS) × (retired.hart.0 < HARTS) × (length events < 2 ^ 32)
    × IsLater engine.time retired.fate
    × (engine.ending ≡ None → (k : ℕ)
    → is_among k (started_by retired.hart.0 retired.fate engine.started) ≡ true
    → (k < HARTS) × (IsSome (key_of engine.schedule k) × IsBegun engine.schedule engine.time k))

-- the causes and events after the event, if the hart was at this address before
abbrev pub IsRecorded : Engine → moves.Event → ℕ → List Cause → List Event → List Cause → List Event
    → Type 0
IsRecorded engine (Woke turn) address causes events new_causes new_events =
    (new_events ≡ events) × ((k : ℕ) → cause_at new_causes k
    ≡ (if k == turn.hart.0
    then woken_with (ticks_from engine.schedule turn.due k) (cause_at causes k)
    else cause_at causes k))
IsRecorded engine (Retired retired) address causes events new_causes new_events =
    (new_events ≡ events ++ record {
      hart = retired.hart;
      address = address;
      cost = (cause_at causes retired.hart.0).cost;
      slept = (cause_at causes retired.hart.0).slept;
      from = (cause_at causes retired.hart.0).from;
      before = (cause_at causes retired.hart.0).before;
      due = engine.time;
    } ∷ [])
    × (engine.ending ≡ None → (k : ℕ) → cause_at new_causes k
    ≡ turned retired.hart.0 retired.fate engine.time (length events)
    (started_by retired.hart.0 retired.fate engine.started)
    (ticks_from engine.schedule engine.time) k (cause_at causes k))
