use Rattle.std.proofs.Common.{take}
use Rattle.std.specs.List.{flat_map}
use Rattle.coz_files.specs.Gathered.{Gathers}
use Rattle.hot_lines.specs.Lines.{hot_line}
use Rattle.hot_lines.proofs.line_texts.put_hot_lines.Given as goal

abbrev pub invariant-loop-line : goal.invariant-loop-line
invariant-loop-line g l = Gathers g.O.Sink.holds g.O.Sink.faults l.fn.out l.out l.fn.to l.to (flat_map (hot_line l.index.lines l.all) (take l.line-index l.lines))
