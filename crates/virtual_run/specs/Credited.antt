-- The accounts and pauses of a delayed state, as credits hold them.
use Rattle.std.specs.Prelude.{◌≡◌, ℕ, ◌+◌, ◌*◌, ◌^◌, ◌≤◌, ◌<◌, true, false, if◌then◌else◌, List, [], ◌∷◌, length, slice_index_or, Option, Some, None}
use Rattle.coz_types.specs.declared.ending.Ending.{Ending}
use Rattle.cost_table.specs.Costs.{raise_of}
use Rattle.run_engine.specs.Engine.{most_ticks}
use Rattle.machines.specs.declared.Fate.{Fate}
use Rattle.machines.specs.Guest.{goes_on, is_sleeper}
use Rattle.machines.specs.Places.{change_each, change_from, is_among}
use Rattle.machines.specs.Delayed.{Delayed, Hart, idle_hart, has_load, total, run, credit, raise_hart}
use Rattle.delay_credits.specs.Delays.{Delays, hart_at, pause_of, at, with_start, with_stop}
use Rattle.delay_credits.specs.Ticks.{without_work}
use Rattle.timed_guest.specs.Guest.{Timed, IsMade}
use Rattle.timed_guest.specs.Retire.{cycles_of_next}
use Rattle.run_engine.specs.declared.engine.Event.{Event}
use Rattle.run_engine.specs.declared.engine.Event.TheVariants.{Woke, Retired}
use Rattle.run_engine.specs.declared.engine.Engine.{Engine}
use Rattle.run_engine.specs.Begin.{started_by}

-- each of these harts is held without its work
abbrev pub AreHeld : List Hart → List Hart → Type 0
AreHeld held harts =
    (k : ℕ) → slice_index_or held k idle_hart ≡ without_work (slice_index_or harts k idle_hart)

-- credits hold the accounts and pauses of a delayed state
pub record Holds {G : Type 0} (c : Delays) (d : Delayed G) : Type 0 where
  pub latest : c.latest ≡ d.now
  pub raised : c.raised ≡ d.delay
  pub harts : AreHeld c.harts d.harts

-- each of these harts is credited with what its total lacks of all that was raised
abbrev pub with_credits : List ℕ → Delays → Delays
with_credits hs c = record c { harts = change_each idle_hart hs (λ _. credit c.raised) c.harts }

-- these harts run from the latest moment on, with no pause
abbrev pub with_starts : List ℕ → Delays → Delays
with_starts hs c = record c { harts = change_each idle_hart hs (λ _. run 0) c.harts }

-- a hart raises the delay at the latest moment
abbrev pub with_one_raise : ℕ → ℕ → Delays → Delays
with_one_raise ticks h c = record c {
  raised = c.raised + ticks;
  harts = change_from 0 (raise_hart ticks h) c.harts;
}

-- these harts raise it in turn, each by its own ticks
abbrev pub with_raises : (ℕ → ℕ) → List ℕ → Delays → Delays
with_raises ticks [] c = c
with_raises ticks (h ∷ hs) c = with_raises ticks hs (with_one_raise (ticks h) h c)

-- a hart of these credits runs, or doesn't
pub record Runs (c : Delays) (k : ℕ) : Type 0 where
  pub below : k < length c.harts
  pub runs : has_load (hart_at c k) ≡ true

pub record Rests (c : Delays) (k : ℕ) : Type 0 where
  pub below : k < length c.harts
  pub rests : has_load (hart_at c k) ≡ false

-- each of these harts runs, or none does, or each is one of these credits'
abbrev pub AllRun : Delays → List ℕ → Type 0
AllRun c hs = (k : ℕ) → is_among k hs ≡ true → Runs c k

abbrev pub AllRest : Delays → List ℕ → Type 0
AllRest c hs = (k : ℕ) → is_among k hs ≡ true → Rests c k

abbrev pub AllBelow : Delays → List ℕ → Type 0
AllBelow c hs = (k : ℕ) → is_among k hs ≡ true → k < length c.harts

abbrev pub AllMade : Timed → List ℕ → Type 0
AllMade g hs = (k : ℕ) → is_among k hs ≡ true → IsMade g k

-- the ticks by which a hart's next instruction raises the delay if it is selected,
-- at a speedup in per cent
abbrev pub raise_ticks : Timed → ℕ → ℕ → ℕ
raise_ticks g speedup hart = raise_of (cycles_of_next g hart) speedup

-- after a retirement from which the run goes on: the harts that it made or woke are credited,
-- all that it started run, and then the selected ones raise the delay in turn
abbrev pub with_begun : (ℕ → ℕ) → ℕ → Fate → List ℕ → List ℕ → Delays → Delays
with_begun ticks hart fate others selected c =
    with_raises ticks selected (with_starts (started_by hart fate others) (with_credits others c))

-- after a hart has retired to this fate at a moment it doesn't run, but if it sleeps it
-- has no pause before it
abbrev pub with_rest : ℕ → Fate → ℕ → Delays → Delays
with_rest hart fate now c = if is_sleeper fate then with_start hart now c else with_stop hart now c

-- after a wake: the hart runs, and raises the delay if it is selected
abbrev pub with_wake : (ℕ → ℕ) → ℕ → List ℕ → Delays → Delays
with_wake ticks hart selected c = with_raises ticks selected (with_starts (hart ∷ []) c)

-- after a retirement with which a run ends or goes on
abbrev pub credits_after : Option Ending → (ℕ → ℕ) → ℕ → Fate → List ℕ → List ℕ → Delays → Delays
credits_after None ticks hart fate others selected c = with_begun ticks hart fate others selected c
credits_after (Some ending) ticks hart fate others selected c = c

-- what the harts and the credits must be if it goes on
pub record CanBegin (c : Delays) (g : Timed) (hart : ℕ) (fate : Fate)
    (others raisers : List ℕ) : Type 0 where
  -- the hart that retired has all that was raised, and those that it made or woke don't run
  pub below : hart < length c.harts
  pub whole : total (hart_at c hart).account ≡ c.raised
  pub rest : AllRest c others
  pub started : AllBelow c (started_by hart fate others)
  -- the selected ones were started
  pub selected : (k : ℕ) → is_among k raisers ≡ true
      → is_among k (started_by hart fate others) ≡ true
  pub made : AllMade g raisers
  pub few : c.raised + most_ticks g.beside.timing * length raisers ≤ 10 ^ 17

-- the run goes on, and so does the hart that retired, with no other made or woken
pub record IsAlone (ending : Option Ending) (fate : Fate) (others : List ℕ) : Type 0 where
  pub goes-on : ending ≡ None
  pub goes : goes_on fate ≡ true
  pub none : others ≡ []

-- what the harts and the credits must be at a moment for a hart to wake
pub record CanWake (c : Delays) (engine : Engine) (hart now : ℕ) : Type 0 where
  pub below : hart < length c.harts
  pub later : c.latest ≤ now
  pub runs : AllRun (with_starts (hart ∷ []) (at now c)) engine.selected
  pub made : AllMade engine.guest engine.selected
  pub few : c.raised
      + most_ticks engine.guest.beside.timing * length engine.selected ≤ 10 ^ 17

-- and for one to have retired
pub record CanAccountRetirement (c : Delays) (engine : Engine) (hart : ℕ) (fate : Fate)
    (now : ℕ) : Type 0 where
  pub below : hart < length c.harts
  pub later : c.latest ≤ now
  pub running : has_load (hart_at c hart) ≡ true
  pub unpaused : pause_of (hart_at (at now c) hart) ≡ 0
  pub can : engine.ending ≡ None
      → CanBegin (with_rest hart fate now c) engine.guest hart fate engine.started engine.selected

abbrev pub CanAccount : Event → Delays → Engine → ℕ → Type 0
CanAccount (Woke turn) c engine now = CanWake c engine turn.hart.0 now
CanAccount (Retired retired) c engine now = CanAccountRetirement c engine retired.hart.0 retired.fate now

-- the net moment of an event, after which the engine is so
abbrev pub moment_of : Event → Engine → ℕ
moment_of (Woke turn) engine = turn.due
moment_of (Retired retired) engine = engine.time

-- the credits after it
abbrev pub credited_by : Event → Engine → (ℕ → ℕ) → ℕ → Delays → Delays
credited_by (Woke turn) engine ticks now c = with_wake ticks turn.hart.0 engine.selected (at now c)
credited_by (Retired retired) engine ticks now c =
    credits_after engine.ending ticks retired.hart.0 retired.fate engine.started engine.selected
    (with_rest retired.hart.0 retired.fate now c)
