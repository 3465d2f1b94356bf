-- The credits after a retirement from which the run goes on.
use Rattle.std.proofs.Common.{◌≡◌, ℕ, zero, suc, ◌+◌, ◌<◌, ◌==◌, eqb-true, Bool, true, false, if◌then◌else◌, List, [], ◌∷◌, length, refl, ap, subst, ◌∙◌, Option}
use Rattle.machines.specs.declared.Fate.{Fate}
use Rattle.machines.specs.declared.Fate.TheVariants.{Goes, Waits, Leaves, Sleeps, Ends}
use Rattle.machines.specs.Guest.{goes_on, is_sleeper}
use Rattle.coz_types.specs.declared.ending.Ending.{Ending}
use Rattle.machines.specs.Places.{change, is_among}
use Rattle.machines.specs.Delayed.{Hart, idle_hart, is_any, run, stop, credit}
use Rattle.delay_credits.specs.Delays.{Delays, at, with_start}
use Rattle.timed_guest.specs.Guest.{Timed}
use Rattle.run_engine.specs.declared.engine.Event.{Event}
use Rattle.run_engine.specs.declared.engine.Event.TheVariants.{Woke, Retired}
use Rattle.run_engine.specs.declared.engine.Turn.{Turn}
use Rattle.run_engine.specs.declared.engine.Retired.{Retired as RetiredHart}
use Rattle.run_engine.specs.declared.engine.Engine.{Engine}
use Rattle.run_engine.specs.Begin.{started_by}
use Rattle.virtual_run.specs.Credited.{with_credits, with_starts, with_rest, with_begun, moment_of, AllBelow, AllRun, CanBegin, CanWake, CanAccountRetirement, CanAccount, IsAlone}
use Rattle.virtual_run.proofs.CreditedLists.{among_rest, credits_length, raises_length, starts_run}

-- the retiring hart, if it goes on, and then the others
abbrev pub started_again : ℕ → Bool → Delays → Delays
started_again hart goes c = if goes then with_starts (hart ∷ []) c else c

pub all_started : (hart : ℕ) (goes : Bool) (others : List ℕ) (c : Delays) → with_starts others (started_again hart goes c) ≡ with_starts (if goes then hart ∷ others else others) c
all_started hart true others c = refl
all_started hart false others c = refl

one : (b : Bool) → (if b then true else false) ≡ true → b ≡ true
one true e = refl
one false e = e

only : (hart k n : ℕ) → is_among k (hart ∷ []) ≡ true → hart < n → k < n
only hart k n among first = rw (eqb-true k hart (one (k == hart) among)) first

again_length : (hart : ℕ) (goes : Bool) (c : Delays) → (goes ≡ true → hart < length c.harts) → length (started_again hart goes c).harts ≡ length c.harts
again_length hart true c below = credits_length (hart ∷ []) (λ _. run 0) c.harts (λ k among. only hart k (length c.harts) among (below refl))
again_length hart false c below = refl

pub others_among : (goes : Bool) (hart k : ℕ) (others : List ℕ) → is_among k others ≡ true → is_among k (if goes then hart ∷ others else others) ≡ true
others_among true hart k others e = among_rest hart k others e
others_among false hart k others e = e

module _ (c : Delays) (g : Timed) (hart : ℕ) (fate : Fate) (others raisers : List ℕ) (can : CanBegin c g hart fate others raisers) where
  same_places : length (with_credits others c).harts ≡ length c.harts
  same_places = credits_length others (λ _. credit c.raised) c.harts (λ k among. (can.rest k among).below)

  pub again_below : (credited : Delays) → credited ≡ with_credits others c → goes_on fate ≡ true → hart < length credited.harts
  again_below credited is goes = rw (is, same_places) can.below

  pub others_below : (credited again : Delays) → credited ≡ with_credits others c → again ≡ started_again hart (goes_on fate) credited → AllBelow again others
  others_below credited again is then_is k among =
      rw (then_is, again_length hart (goes_on fate) credited (again_below credited is), is, same_places)
      (can.started k (others_among (goes_on fate) hart k others among))

  started_below : AllBelow (with_credits others c) (started_by hart fate others)
  started_below k among = rw same_places (can.started k among)

  pub started_is : (credited again started : Delays) → credited ≡ with_credits others c → again ≡ started_again hart (goes_on fate) credited → started ≡ with_starts others again
      → started ≡ with_starts (started_by hart fate others) (with_credits others c)
  started_is credited again started is then_is last =
      last ∙ ap (with_starts others) then_is ∙ all_started hart (goes_on fate) others credited ∙ ap (with_starts (started_by hart fate others)) is

  pub raisers_run : (started : Delays) → started ≡ with_starts (started_by hart fate others) (with_credits others c) → AllRun started raisers
  raisers_run started is k among = rw is (starts_run (started_by hart fate others) (with_credits others c) started_below k (can.selected k among))

  pub begun_places : (ticks : ℕ → ℕ) → length (with_begun ticks hart fate others raisers c).harts ≡ length c.harts
  begun_places ticks =
      raises_length ticks raisers (with_starts (started_by hart fate others) (with_credits others c))
      ∙ credits_length (started_by hart fate others) (λ _. run 0) (with_credits others c).harts started_below
      ∙ same_places

-- a hart that stops and starts at one moment has started
stop-start : (h : ℕ) (harts : List Hart) → change idle_hart h (run 0) harts ≡ change idle_hart h (run 0) (change idle_hart h stop harts)
stop-start zero [] = refl
stop-start zero (hart ∷ harts) = refl
stop-start (suc h) [] = ap (λ (hs : List Hart). idle_hart ∷ hs) (stop-start h [])
stop-start (suc h) (hart ∷ harts) = ap (λ (hs : List Hart). hart ∷ hs) (stop-start h harts)

goes_awake : (fate : Fate) → goes_on fate ≡ true → is_sleeper fate ≡ false
goes_awake Goes goes = refl
goes_awake Waits goes = refl
goes_awake Leaves goes = refl
goes_awake (Sleeps moment) goes = absurd (let no : false ≡ true = goes in cc)
goes_awake (Ends ending) goes = refl

pub goes-on-alone : (h now : ℕ) (ending : Option Ending) (fate : Fate) (others : List ℕ) (c : Delays) → IsAlone ending fate others
    → with_start h now c ≡ with_starts (started_by h fate others) (with_credits others (with_rest h fate now c))
goes-on-alone h now ending fate others c alone =
    rw (alone.none, alone.goes, goes_awake fate alone.goes) (ap (λ (hs : List Hart). record { latest = now; raised = c.raised; harts = hs }) (stop-start h (at now c).harts))

pub none-any : (hs : List ℕ) → is_any hs ≡ false → hs ≡ []
none-any [] e = refl
none-any (h ∷ hs) e = absurd (let no : true ≡ false = e in cc)

-- what follows an event, by the event
pub can_wake : (event : Event) (turn : Turn) (c : Delays) (engine : Engine) (raised : ℕ) → event ≡ Woke turn → CanAccount event c engine (moment_of event engine + raised) → CanWake c engine turn.hart.0 (turn.due + raised)
can_wake event turn c engine raised is can = subst (λ (e : Event). CanAccount e c engine (moment_of e engine + raised)) is can

pub can_account_retirement : (event : Event) (retired : RetiredHart) (c : Delays) (engine : Engine) (raised : ℕ) → event ≡ Retired retired → CanAccount event c engine (moment_of event engine + raised) → CanAccountRetirement c engine retired.hart.0 retired.fate (engine.time + raised)
can_account_retirement event retired c engine raised is can = subst (λ (e : Event). CanAccount e c engine (moment_of e engine + raised)) is can
