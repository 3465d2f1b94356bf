-- The hand-overs of a run, by the changes of what its harts do.
use Rattle.std.specs.Prelude.{ℕ, ◌-◌, Bool, true, false, List, [], ◌∷◌, ◌++◌, Option, Some, None, if◌then◌else◌, ◌==◌}
use Rattle.hart_states.specs.declared.change.Activity.{Activity}
use Rattle.hart_states.specs.declared.change.Activity.TheVariants.{Running, Waiting, Sleeping, Ready, Gone}
use Rattle.hart_states.specs.declared.change.Change.{Change}
use Rattle.hart_states.specs.Changes.{latest}
use Rattle.hart_handovers.specs.declared.handover.Handover.{Handover}
use Rattle.hart_handovers.specs.declared.handover.Way.{Way}
use Rattle.hart_handovers.specs.declared.handover.Way.TheVariants.{Start, Clone, Wake, Sleep, Core}

-- the way to run from this; `now` tells whether a hart in line entered it at this moment, and
-- `before` the way that it would have come without standing there
abbrev pub way_from : Activity → Bool → Way → Way
way_from Running now before = Core
way_from Waiting now before = Wake
way_from Sleeping now before = Sleep
way_from Ready true before = before
way_from Ready false before = Core
way_from Gone now before = Clone

-- the way in which a hart comes to run at a moment; one with no change is made
abbrev pub way : ℕ → ℕ → List Change → Way
way h moment [] = Clone
way h moment (c ∷ past) =
    if h == c.hart.0 then way_from c.to (c.moment == moment) (way h c.moment past)
    else way h moment past

-- a run starts with its first change
abbrev pub way_or_start : ℕ → ℕ → List Change → Way
way_or_start h moment [] = Start
way_or_start h moment (c ∷ past) = way h moment (c ∷ past)

-- the ticks of a sleep that ends
abbrev pub slept : Activity → ℕ → ℕ
slept Running ticks = 0
slept Waiting ticks = 0
slept Sleeping ticks = ticks
slept Ready ticks = 0
slept Gone ticks = 0

abbrev pub slept_since : Option Change → ℕ → ℕ
slept_since None moment = 0
slept_since (Some c) moment = slept c.to (moment - c.moment)

-- as a change has its hart run
abbrev pub handover : Change → List Change → Handover
handover c past = record {
  moment = c.moment;
  slept = slept_since (latest c.hart.0 past) c.moment;
  hart = c.hart;
  by = c.by;
  way = way_or_start c.hart.0 c.moment past;
}

abbrev pub runs : Activity → Bool
runs Running = true
runs Waiting = false
runs Sleeping = false
runs Ready = false
runs Gone = false

-- all of them, in order of time
abbrev pub handovers : List Change → List Handover
handovers [] = []
handovers (c ∷ past) = handovers past ++ (if runs c.to then handover c past ∷ [] else [])
