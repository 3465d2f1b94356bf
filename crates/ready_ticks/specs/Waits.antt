-- What is noted of each hart as harts enter the line for a core and start.
use Rattle.std.specs.Prelude.{◌≡◌, ◌≤◌, ℕ, suc, ◌+◌, ◌-◌, List, ◌++◌, get_or, Option, Some, None, is_some}
use Rattle.machines.specs.Places.{is_among, change_each, AllApart}
use Rattle.ready_ticks.specs.declared.waits.Wait.{Wait}
use Rattle.ready_ticks.specs.Ready.{Course, waited}

-- of a hart that never stood in line
abbrev pub never : Wait
never = record { ticks = 0; since = None }

-- what is noted of a hart
abbrev pub wait_of : List Wait → ℕ → Wait
wait_of waits hart = get_or waits hart never

-- the ticks since a hart entered the line, if it stands in it
abbrev pub stay : Option ℕ → ℕ → ℕ
stay None now = 0
stay (Some since) now = now - since

-- its ticks in line up to a moment
abbrev pub ticks_at : ℕ → Wait → ℕ
ticks_at now w = w.ticks + stay w.since now

-- as it enters the line at a moment
abbrev pub entered_at : ℕ → Wait → Wait
entered_at now w = record w { since = Some now }

-- as it starts at a moment
abbrev pub started_at : ℕ → Wait → Wait
started_at now w = record { ticks = ticks_at now w; since = None }

-- after a retirement at a moment: these harts enter the line, and then these start
abbrev pub passed : ℕ → List ℕ → List ℕ → List Wait → List Wait
passed now entered started waits =
    change_each never started (λ _. started_at now)
    (change_each never entered (λ _. entered_at now) waits)

-- they tell how long each hart has stood in line over the first n moves, and who stands in it
pub record AreTold (c : Course) (n : ℕ) (waits : List Wait) : Type 0 where
  pub in_line : (hart : ℕ) → is_some (wait_of waits hart).since ≡ is_among hart (c.line n)
  pub ticks : (hart : ℕ) → ticks_at (c.moment n) (wait_of waits hart) ≡ waited c hart n
  pub past : (hart since : ℕ) → (wait_of waits hart).since ≡ Some since → since ≤ c.moment n

-- with the next move, at this moment, these harts enter at the end of the line, and the first in
-- it start; none is in it twice
pub record Passes (c : Course) (n now : ℕ) (entered started : List ℕ) : Type 0 where
  pub moment : c.moment (suc n) ≡ now
  pub later : c.moment n ≤ now
  pub line : c.line n ++ entered ≡ started ++ c.line (suc n)
  pub apart : AllApart (c.line n ++ entered)
