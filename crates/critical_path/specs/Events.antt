-- The events of a run of the shortened machine, over any guest and any function that gives the
-- address of a hart's next instruction.
use Rattle.std.specs.Prelude.{◌≡◌, ℕ, zero, suc, ◌-◌, Bool, false, ◌&&◌, ◌||◌, slice_index_or, List, [], ◌∷◌, ◌++◌, length, Option, Some, None, if◌then◌else◌, ◌==◌, EachIndex}
use Rattle.coz_types.specs.declared.ending.Ending.{Ending}
use Rattle.machines.specs.Places.{is_among}
use Rattle.machines.specs.Guest.{Experiment, Retirement, cost, cut, started_harts, is_sleeper, enough}
use Rattle.machines.specs.Shortened.{Shortened, Turn, next_turn, shortened}
use Rattle.path_chains.specs.declared.event.Event.{Event}
use Rattle.path_causes.specs.declared.cause.Cause.{Cause}
use Rattle.path_chains.specs.Path.{event_at}
use Rattle.path_causes.specs.Causes.{no_cause, woken_with, turned}

-- the causes by hart, and the events so far
pub record Traced : Type 0 where
  pub causes : ℕ → Cause
  pub events : List Event

-- the latest event of a hart below a number
abbrev pub latest : List Event → ℕ → ℕ → Option ℕ
latest events h zero = None
latest events h (suc i) = if h == (event_at events i).hart.0 then Some i else latest events h i

-- each event's `before` is the latest earlier event of its hart, and None if there is none
abbrev pub AreBefores : List Event → Type 0
AreBefores events =
    EachIndex events
    (λ i. (event_at events i).before ≡ latest events (event_at events i).hart.0 i)

-- ---- what each event waited for

-- a retirement, by the hart that retired, the harts that it started, and whether the hart sleeps
-- from then on
pub record Retiring : Type 0 where
  pub hart : ℕ
  pub started : List ℕ
  pub sleeps : Bool

abbrev pub no_retiring : Retiring
no_retiring = record { hart = 0; started = []; sleeps = false }

-- it started a hart, or began its sleep
abbrev pub begins : Retiring → ℕ → Bool
begins r h = is_among h r.started || ((h == r.hart) && r.sleeps)

-- the latest of the retirements below a number that started a hart or began its sleep
abbrev pub latest_start : List Retiring → ℕ → ℕ → Option ℕ
latest_start rs h zero = None
latest_start rs h (suc i) =
    if begins (slice_index_or rs i no_retiring) h then Some i else latest_start rs h i

-- each event's `from` is the latest earlier retirement that started its hart or began its sleep
abbrev pub AreFroms : List Retiring → List Event → Type 0
AreFroms rs events =
    EachIndex events
    (λ i. (event_at events i).from ≡ latest_start rs (event_at events i).hart.0 i)

module _ {G : Type 0} (x : Experiment G) where
  abbrev pub retiring : Turn → Retirement G → Retiring
  retiring t r = record {
    hart = t.hart;
    started = started_harts t.hart r;
    sleeps = is_sleeper r.fate;
  }

  -- with that of a move of the machine, unless a hart woke
  abbrev pub with_retiring : Option Ending → Option Turn → G → List Retiring → List Retiring
  with_retiring (Some e) turn g rs = rs
  with_retiring None (Some t) g rs =
      if x.guest.is_sleeping g t.hart then rs
      else rs ++ retiring t (x.guest.retire g t.hart t.due) ∷ []
  with_retiring None None g rs = rs

  -- the retirements in the first n moves of the shortened machine, in order
  unfoldable pub retirements : ℕ → List Retiring
  retirements zero = []
  retirements (suc n) =
      with_retiring (shortened x n).ending (next_turn (shortened x n).dues) (shortened x n).guest
      (retirements n)

  -- those of a run
  unfoldable pub retirements_of : List Retiring
  retirements_of = retirements (enough x)

-- ---- the events

module _ {G : Type 0} (x : Experiment G) (place : G → ℕ → ℕ) where
  -- the ticks that a hart is begun with
  abbrev pub work : G → ℕ → ℕ
  work g h = cost x g h - cut x g h

  -- the event of a turn, by what is known of its hart
  abbrev pub event_of : Turn → G → Cause → Event
  event_of t g c = record {
    hart = record { 0 = t.hart };
    address = place g t.hart;
    cost = c.cost;
    slept = c.slept;
    from = c.from;
    before = c.before;
    due = t.due;
  }

  -- what is known of a hart after event e, the retirement of a turn
  abbrev pub cause_after : Turn → Retirement G → ℕ → ℕ → Cause → Cause
  cause_after t r e =
      turned t.hart r.fate t.due e (started_harts t.hart r) (work r.guest)

  -- the hart whose turn it is retires
  abbrev pub retired : Turn → G → Traced → Traced
  retired t g w = record {
    causes = λ h. cause_after t (x.guest.retire g t.hart t.due) (length w.events) h (w.causes h);
    events = w.events ++ event_of t g (w.causes t.hart) ∷ [];
  }

  -- it wakes
  abbrev pub woken : Turn → G → Traced → Traced
  woken t g w = record w {
    causes = λ h.
        if h == t.hart then woken_with (work (x.guest.wake g h) h) (w.causes h) else w.causes h;
  }

  -- what follows on a move of the machine
  abbrev pub after_move_by : Option Ending → Option Turn → G → Traced → Traced
  after_move_by (Some e) turn g w = w
  after_move_by None (Some t) g w =
      if x.guest.is_sleeping g t.hart then woken t g w else retired t g w
  after_move_by None None g w = w

  abbrev pub after_move : Shortened G → Traced → Traced
  after_move s w = after_move_by s.ending (next_turn s.dues) s.guest w

  -- only the first hart is begun, and nothing was before it
  abbrev pub untraced : Traced
  untraced = record {
    causes = λ h. if h == 0 then record no_cause { cost = work x.first 0 } else no_cause;
    events = [];
  }

  -- beside the state of the shortened machine after n moves
  unfoldable pub traced : ℕ → Traced
  traced zero = untraced
  traced (suc n) = after_move (shortened x n) (traced n)

  -- the events of a run
  unfoldable pub events_of : List Event
  events_of = (traced (enough x)).events
