use Rattle.std.proofs.Common.{take}
use Rattle.coz_files.specs.Gathered.{Gathers}
use Rattle.command_texts.specs.LinesText.{each_text}
use Rattle.command_texts.proofs.listing.put_index_lines.Given as goal

abbrev pub invariant-loop-line : goal.invariant-loop-line
invariant-loop-line g l = Gathers g.O.Sink.holds g.O.Sink.faults l.fn.out l.out l.fn.to l.to (each_text (take l.line l.index.lines) (take l.line l.index.entries))
