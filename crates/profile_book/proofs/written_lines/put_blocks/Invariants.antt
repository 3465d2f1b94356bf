use Rattle.std.proofs.Common.{take}
use Rattle.std.specs.List.{flat_map}
use Rattle.coz_files.specs.Gathered.{Gathers}
use Rattle.profile_book.specs.Profile.{block}
use Rattle.profile_book.proofs.written_lines.put_blocks.Given as goal

abbrev pub invariant-loop-at : goal.invariant-loop-at
invariant-loop-at g l = Gathers g.O.Sink.holds g.O.Sink.faults l.fn.out l.out l.fn.to l.to (flat_map block (take l.at l.summaries))
