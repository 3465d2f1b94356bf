-- The changes of what harts do, in a list with the latest first, and what they tell of each hart.
use Rattle.std.specs.Prelude.{◌≡◌, ℕ, ◌+◌, ◌-◌, ◌≤◌, ◌<◌, Bool, true, false, List, [], ◌∷◌, ◌++◌, Option, Some, None, if◌then◌else◌, ◌==◌, nat_lt, filter, option_map, option_to_list, unwrap_or}
use Rattle.hart_states.specs.declared.change.Activity.{Activity}
use Rattle.hart_states.specs.declared.change.Activity.TheVariants.{Running, Waiting, Sleeping, Ready, Gone}
use Rattle.hart_states.specs.declared.change.Change.{Change}
use Rattle.hart_states.specs.declared.change.Interval.{Interval}

-- a hart's latest change
abbrev pub latest : ℕ → List Change → Option Change
latest h [] = None
latest h (c ∷ past) = if h == c.hart.0 then Some c else latest h past

-- what it does since then; None of a hart that was not made
abbrev pub doing : ℕ → List Change → Option Activity
doing h past = option_map (λ c. c.to) (latest h past)

abbrev pub moment_or : Option ℕ → ℕ → Option ℕ
moment_or None v = Some v
moment_or (Some u) v = Some u

-- when it was made: at its first change
abbrev pub made_at : ℕ → List Change → Option ℕ
made_at h [] = None
made_at h (c ∷ past) = if h == c.hart.0 then moment_or (made_at h past) c.moment else made_at h past

-- its first change
abbrev pub earliest : ℕ → List Change → Option Change
earliest h [] = None
earliest h (c ∷ past) =
    if h == c.hart.0 then Some (unwrap_or (earliest h past) c) else earliest h past

-- the same activity
abbrev pub is_same : Activity → Activity → Bool
is_same Running Running = true
is_same Waiting Waiting = true
is_same Sleeping Sleeping = true
is_same Ready Ready = true
is_same Gone Gone = true
is_same a b = false

-- the ticks for which a hart has done this by a moment: those by its latest change, and those since
-- then if it does this now
abbrev pub ticks_in : Activity → ℕ → ℕ → List Change → ℕ
ticks_in a h now [] = 0
ticks_in a h now (c ∷ past) =
    if h == c.hart.0
    then ticks_in a h c.moment past + (if is_same a c.to then now - c.moment else 0)
    else ticks_in a h now past

-- none is later than the one after it, and the latest is no later than a moment
abbrev pub InOrder : ℕ → List Change → Type 0
InOrder now [] = Unit {0}
InOrder now (c ∷ past) = (c.moment ≤ now) × InOrder c.moment past

abbrev pub is_gone : Activity → Bool
is_gone Running = false
is_gone Waiting = false
is_gone Sleeping = false
is_gone Ready = false
is_gone Gone = true

-- no hart that has gone does anything again
abbrev pub StayGone : List Change → Type 0
StayGone [] = Unit {0}
StayGone (c ∷ past) =
    ((b : Change) → latest c.hart.0 past ≡ Some b → is_gone b.to ≡ false) × StayGone past

-- ---- intervals

-- between a change of a hart that has not gone and its next one, if that is later
abbrev pub between : Change → Change → Option Interval
between b c =
    if is_gone b.to then None
    else if nat_lt b.moment c.moment then Some (record { from = b; to = c }) else None

-- what a change ends
abbrev pub ended_by : Option Change → Change → Option Interval
ended_by None c = None
ended_by (Some b) c = between b c

-- those of all harts, in the order in which they end
abbrev pub intervals : List Change → List Interval
intervals [] = []
intervals (c ∷ past) = intervals past ++ option_to_list (ended_by (latest c.hart.0 past) c)

-- those of a hart
abbrev pub intervals_of : ℕ → List Change → List Interval
intervals_of h past = filter (λ (i : Interval). h == i.from.hart.0) (intervals past)

-- they lead from one moment to another: each begins where the one ahead of it ends, and takes time
abbrev pub Tile : ℕ → ℕ → List Interval → Type 0
Tile u v [] = u ≡ v
Tile u v (i ∷ is) =
    (i.from.moment ≡ u) × ((i.from.moment < i.to.moment) × Tile i.to.moment v is)
