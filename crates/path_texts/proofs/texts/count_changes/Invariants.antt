use Rattle.std.proofs.Common.{◌≡◌, ◌+◌, ◌≤◌, drop, length}
use Rattle.path_chains.specs.Segments.{segments_from, segments_of}
use Rattle.path_texts.specs.PathText.{events_on}
use Rattle.path_texts.proofs.texts.count_changes.Given as goal

-- those so far and those of the events that are left are all, but that the open one is in both
abbrev pub invariant-loop-number : goal.invariant-loop-number
invariant-loop-number l =
    (l.count + length (segments_from l.segment (events_on l.events (drop l.number-index l.rest))) ≡ length (segments_of (events_on l.events l.chain)) + 1)
    × (l.count ≤ l.number-index + 1)
