use Rattle.std.proofs.Common.{drop}
use Rattle.std.specs.List.{flat_map}
use Rattle.path_chains.specs.Segments.{segments_of}
use Rattle.path_texts.specs.PathText.{events_on, segment_line}
use Rattle.path_texts.proofs.PathSegments.{IsPut}
use Rattle.path_texts.proofs.texts.put_segments.Given as goal

-- what is put and the segments that are left are the text of all
abbrev pub invariant-loop-number : goal.invariant-loop-number
invariant-loop-number g l =
    IsPut g.O.Sink.holds g.O.Sink.faults l.fn.out l.out l.fn.to l.to l.events l.segment (drop l.number-index l.rest) (flat_map segment_line (segments_of (events_on l.events l.chain)))
