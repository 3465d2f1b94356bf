-- The segments of a path: its maximal runs on one hart. They tile the time of the path.
use Rattle.std.specs.Prelude.{◌≡◌, ℕ, ◌≤◌, ◌==◌, List, [], ◌∷◌, is_none, if◌then◌else◌}
use Rattle.path_chains.specs.declared.event.Event.{Event}
use Rattle.path_chains.specs.declared.segment.Segment.{Segment}
use Rattle.path_chains.specs.declared.segment.Handover.{Handover}
use Rattle.path_chains.specs.declared.segment.Handover.TheVariants.{Start, Clone, Wake}

-- how a hart came to carry the path: its first event has none before it
abbrev pub handover : Event → Handover
handover e = if is_none e.before then Clone else Wake

abbrev pub first_segment : Event → Segment
first_segment e = record { hart = e.hart; start = 0; end = e.due; by = Start }

abbrev pub next_segment : Segment → Event → Segment
next_segment s e = record { hart = e.hart; start = s.end; end = e.due; by = handover e }

-- a segment, which the events after it may prolong, and those that follow
abbrev pub segments_from : Segment → List Event → List Segment
segments_from s [] = s ∷ []
segments_from s (e ∷ es) =
    if e.hart.0 == s.hart.0 then segments_from (record s { end = e.due }) es
    else s ∷ segments_from (next_segment s e) es

-- those of the events of a path
abbrev pub segments_of : List Event → List Segment
segments_of [] = []
segments_of (e ∷ es) = segments_from (first_segment e) es

-- the segment that an event is in, if the one ahead of it is in this one
abbrev pub after : Segment → Event → Segment
after s e = if e.hart.0 == s.hart.0 then record s { end = e.due } else next_segment s e

-- the segments lead from one moment to another: each begins where the one ahead of it ends, and
-- ends no sooner than it begins
abbrev pub Tile : ℕ → ℕ → List Segment → Type 0
Tile from to [] = from ≡ to
Tile from to (s ∷ ss) = (s.start ≡ from) × ((s.start ≤ s.end) × Tile s.end to ss)
