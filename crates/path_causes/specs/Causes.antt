-- What is known of a hart that is to retire, by what has happened to it: the event that started it
-- or began its sleep, its own event before, the ticks that it was begun with, and those that it
-- slept. The steps below bring this up to what happens next; that they do is the law `histories`.
-- Of a whole run it is said by clauses of `walk` of critical_path: `froms` and `befores`.
use Rattle.std.specs.Prelude.{◌≡◌, ℕ, ◌+◌, ◌-◌, List, [], ◌∷◌, Option, Some, None, if◌then◌else◌, ◌==◌, slice_index_or}
use Rattle.machines.specs.declared.Fate.{Fate}
use Rattle.machines.specs.declared.Fate.TheVariants.{Goes, Waits, Leaves, Sleeps, Ends}
use Rattle.machines.specs.Places.{is_among}
use Rattle.path_causes.specs.declared.cause.Cause.{Cause}

-- ---- what has happened to a hart, the latest first

pub data Happening : Type 0 where
  -- an event started it, and its next instruction takes this many ticks
  begun : ℕ → ℕ → Happening
  -- it retired with an event
  retired : ℕ → Happening
  -- it retired with an event, and sleeps for this many ticks
  slept : ℕ → ℕ → Happening
  -- it woke, and its next instruction takes this many ticks
  woke : ℕ → Happening

-- the latest event that started the hart, or the one of its own after which it slept
abbrev pub from_after : List Happening → Option ℕ
from_after [] = None
from_after (begun e ticks ∷ past) = Some e
from_after (retired e ∷ past) = from_after past
from_after (slept e ticks ∷ past) = Some e
from_after (woke ticks ∷ past) = from_after past

-- its own latest event
abbrev pub before_after : List Happening → Option ℕ
before_after [] = None
before_after (begun e ticks ∷ past) = before_after past
before_after (retired e ∷ past) = Some e
before_after (slept e ticks ∷ past) = Some e
before_after (woke ticks ∷ past) = before_after past

-- the ticks that it was begun with, and none while it sleeps
abbrev pub cost_after : List Happening → ℕ
cost_after [] = 0
cost_after (begun e ticks ∷ past) = ticks
cost_after (retired e ∷ past) = cost_after past
cost_after (slept e ticks ∷ past) = 0
cost_after (woke ticks ∷ past) = ticks

-- the ticks before its wake
abbrev pub slept_after : List Happening → ℕ
slept_after [] = 0
slept_after (begun e ticks ∷ past) = 0
slept_after (retired e ∷ past) = slept_after past
slept_after (slept e ticks ∷ past) = ticks
slept_after (woke ticks ∷ past) = slept_after past + cost_after past

abbrev pub cause_after : List Happening → Cause
cause_after past = record {
  from = from_after past;
  before = before_after past;
  cost = cost_after past;
  slept = slept_after past;
}

-- ---- the cause of a hart's next event, step by step

abbrev pub no_cause : Cause
no_cause = record { from = None; before = None; cost = 0; slept = 0 }

abbrev pub cause_at : List Cause → ℕ → Cause
cause_at causes h = slice_index_or causes h no_cause

-- a hart whose retirement was event e
abbrev pub after_own : ℕ → Cause → Cause
after_own e c = record c { before = Some e }

-- one that event e, which was due then, left to this fate: it may sleep
abbrev pub at_rest : Fate → ℕ → ℕ → Cause → Cause
at_rest Goes due e c = c
at_rest Waits due e c = c
at_rest Leaves due e c = c
at_rest (Sleeps moment) due e c = record c { from = Some e; cost = 0; slept = moment - due }
at_rest (Ends ending) due e c = c

-- one that event e started, whose next instruction takes `ticks` ticks
abbrev pub started_with : ℕ → ℕ → Cause → Cause
started_with ticks e c = record c { from = Some e; cost = ticks; slept = 0 }

-- one that wakes, and whose next instruction takes `ticks` ticks: all that went before it slept
abbrev pub woken_with : ℕ → Cause → Cause
woken_with ticks c = record c { cost = ticks; slept = c.slept + c.cost }

-- hart k, after hart h retired by event e, which was due then and left it to this fate; the
-- event started these harts, whose next instructions take `ticks k` ticks
abbrev pub turned : ℕ → Fate → ℕ → ℕ → List ℕ → (ℕ → ℕ) → ℕ → Cause → Cause
turned h fate due e started ticks k c =
    let own = if k == h then at_rest fate due e (after_own e c) else c in
    if is_among k started then started_with (ticks k) e own else own

-- ---- each step is what its happening does

pub record TellHistories : Type 0 where
  pub starts : (past : List Happening) (e ticks : ℕ)
      → started_with ticks e (cause_after past) ≡ cause_after (begun e ticks ∷ past)
  pub retires : (past : List Happening) (e : ℕ)
      → after_own e (cause_after past) ≡ cause_after (retired e ∷ past)
  pub sleeps : (past : List Happening) (e due moment : ℕ)
      → at_rest (Sleeps moment) due e (after_own e (cause_after past))
      ≡ cause_after (slept e (moment - due) ∷ past)
  pub wakes : (past : List Happening) (ticks : ℕ)
      → woken_with ticks (cause_after past) ≡ cause_after (woke ticks ∷ past)
