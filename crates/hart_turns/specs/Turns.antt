-- The changes that a retirement or a wake brings about, and what is noted of them.
use Rattle.std.specs.Prelude.{◌≡◌, ℕ, List, [], ◌∷◌, Option, Some, None, if◌then◌else◌}
use Rattle.machines.specs.declared.Fate.{Fate}
use Rattle.machines.specs.declared.Fate.TheVariants.{Goes, Waits, Leaves, Sleeps, Ends}
use Rattle.machines.specs.Guest.{goes_on}
use Rattle.hart_states.specs.declared.change.Activity.{Activity}
use Rattle.hart_states.specs.declared.change.Activity.TheVariants.{Running, Waiting, Sleeping, Ready, Gone}
use Rattle.hart_states.specs.declared.change.Change.{Change}
use Rattle.hart_states.specs.Changes.{intervals, is_gone, latest}
use Rattle.hart_handovers.specs.Handovers.{handovers}
use Rattle.hart_turns.specs.declared.turns.Retirement.{Retirement}
use Rattle.hart_turns.specs.declared.turns.Woken.{Woken}
use Rattle.hart_turns.specs.declared.turns.Rooms.{Rooms}
use Rattle.hart_turns.specs.declared.turns.Turns.{Turns}
use Rattle.hart_turns.specs.Firsts.{held}
use Rattle.hart_turns.specs.Lives.{TellsOf, life_of}

-- what a hart does next that has retired, by its fate on cores and that of its guest alone; None if
-- it runs on, or the run ends
abbrev pub next_activity : Fate → Fate → Option Activity
next_activity Goes own = None
next_activity Waits own = Some (if goes_on own then Ready else Waiting)
next_activity Leaves own = Some Gone
next_activity (Sleeps moment) own = Some Sleeping
next_activity (Ends ending) own = None

-- a hart does this from a retirement on
abbrev pub changed : Retirement → Activity → ℕ → Change
changed r a h = record {
  hart = record { 0 = h };
  to = a;
  moment = r.moment;
  by = r.hart;
  place = r.place;
}

-- and so does each of these
abbrev pub with_each : Retirement → Activity → List ℕ → List Change → List Change
with_each r a [] past = past
with_each r a (h ∷ hs) past = with_each r a hs (changed r a h ∷ past)

abbrev pub with_own : Retirement → Option Activity → List Change → List Change
with_own r None past = past
with_own r (Some a) past = changed r a r.hart.0 ∷ past

-- after a retirement: its hart goes on or not, those that it made or woke come into the line, and
-- those that start leave it
abbrev pub after_retirement : Retirement → List ℕ → List ℕ → List Change → List Change
after_retirement r others started past =
    with_each r Running started
    (with_each r Ready others (with_own r (next_activity r.fate r.own) past))

-- after a hart woke
abbrev pub after_wake : Woken → List Change → List Change
after_wake w past =
    record { hart = w.hart; to = Running; moment = w.moment; by = w.hart; place = w.place }
    ∷ past

-- as a run begins
abbrev pub first_change : ℕ → Change
first_change place = record {
  hart = record { 0 = 0 };
  to = Running;
  moment = 0;
  by = record { 0 = 0 };
  place = place;
}

-- when a hart exited, if it has gone
abbrev pub left_by : Change → Option ℕ
left_by c = if is_gone c.to then Some c.moment else None

abbrev pub left_since : Option Change → Option ℕ
left_since None = None
left_since (Some c) = left_by c

abbrev pub left_at : ℕ → List Change → Option ℕ
left_at h past = left_since (latest h past)

-- what is noted tells these changes, of which there is one: of each hart, the first intervals, and
-- the first hand-overs, as many as there is room for
pub record Tell (rooms : Rooms) (past : List Change) (t : Turns) : Type 0 where
  pub some : past ≡ [] → ⊥
  pub each : (h : ℕ) → TellsOf h past (life_of t.lives h)
  pub intervals_are : t.intervals ≡ held rooms.intervals (intervals past)
  pub handovers_are : t.handovers ≡ held rooms.handovers (handovers past)
