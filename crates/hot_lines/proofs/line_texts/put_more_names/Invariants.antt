use Rattle.std.proofs.Common.{take}
use Rattle.std.specs.List.{flat_map}
use Rattle.coz_files.specs.Gathered.{Gathers}
use Rattle.hot_lines.specs.Lines.{more_names}
use Rattle.hot_lines.proofs.line_texts.put_more_names.Given as goal

abbrev pub invariant-loop-line : goal.invariant-loop-line
invariant-loop-line g l = Gathers g.O.Sink.holds g.O.Sink.faults l.fn.out l.out l.fn.to l.to (flat_map (more_names l.index.lines) (take l.line-index l.lines))
