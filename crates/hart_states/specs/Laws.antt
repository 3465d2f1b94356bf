-- The laws of what harts do.
use Rattle.std.specs.Prelude.{option_map, ◌≡◌, ◌≤◌, ℕ, ◌+◌, List, Some, if◌then◌else◌}
use Rattle.hart_states.specs.declared.change.Activity.{Activity}
use Rattle.hart_states.specs.declared.change.Activity.TheVariants.{Running, Waiting, Sleeping, Ready, Gone}
use Rattle.hart_states.specs.declared.change.Change.{Change}
use Rattle.hart_states.specs.Changes.{earliest, InOrder, StayGone, Tile, intervals_of, is_gone, latest, made_at, ticks_in}

-- the ticks that a hart has run, waited, slept and been ready
abbrev pub lived : ℕ → ℕ → List Change → ℕ
lived h now past =
    ticks_in Running h now past + ticks_in Waiting h now past + ticks_in Sleeping h now past
    + ticks_in Ready h now past

-- when a hart's life ends as a run stands at a moment: as it exited, and else then
abbrev pub end_of : Change → ℕ → ℕ
end_of c now = if is_gone c.to then c.moment else now

-- by a moment, of a hart that was made
pub record TicksAreLives : Type 0 where
  pub all : (h now made : ℕ) (past : List Change) → InOrder now past → made_at h past ≡ Some made
      → made + (lived h now past + ticks_in Gone h now past) ≡ now
  pub living : (h now made : ℕ) (past : List Change) (c : Change) → InOrder now past
      → StayGone past → made_at h past ≡ Some made → latest h past ≡ Some c
      → made + lived h now past ≡ end_of c now

abbrev pub TicksAreWithin : Type 0
TicksAreWithin =
    (a : Activity) (h now : ℕ) (past : List Change) → InOrder now past
    → ticks_in a h now past ≤ now

abbrev pub IntervalsTile : Type 0
IntervalsTile =
    (h now made : ℕ) (past : List Change) (c : Change) → InOrder now past → StayGone past
    → made_at h past ≡ Some made → latest h past ≡ Some c
    → Tile made c.moment (intervals_of h past)

abbrev pub EarliestIsMaking : Type 0
EarliestIsMaking =
    (h : ℕ) (past : List Change) → made_at h past ≡ option_map (λ c. c.moment) (earliest h past)
