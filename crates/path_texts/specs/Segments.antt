-- Segments of a path while they are written.
use Rattle.std.specs.Prelude.{◌≡◌, ℕ, ◌+◌, ◌==◌, List, [], if◌then◌else◌}
use Rattle.coz_types.specs.Labels.{Text}
use Rattle.path_chains.specs.declared.event.Event.{Event}
use Rattle.path_chains.specs.Path.{event_at}
use Rattle.path_chains.specs.declared.segment.Segment.{Segment}
use Rattle.path_texts.specs.PathText.{segment_line}

-- the line of a segment, if the event after it ends it
abbrev pub closed : Segment → Event → Text
closed s e = if e.hart.0 == s.hart.0 then [] else segment_line s

-- four events from a number on are of the hart that a program begins with
pub record AreFourOfFirst (events : List Event) (i : ℕ) : Type 0 where
  pub first : (event_at events i).hart.0 ≡ 0
  pub second : (event_at events (i + 1)).hart.0 ≡ 0
  pub third : (event_at events (i + 2)).hart.0 ≡ 0
  pub fourth : (event_at events (i + 3)).hart.0 ≡ 0
