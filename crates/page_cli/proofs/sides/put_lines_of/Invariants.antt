use Rattle.std.proofs.Common.{take}
use Rattle.std.specs.List.{flat_map}
use Rattle.coz_files.specs.Gathered.{Gathers}
use Rattle.page_cli.specs.Page.{line_at}
use Rattle.page_cli.proofs.sides.put_lines_of.Given as goal

abbrev pub invariant-loop-curve : goal.invariant-loop-curve
invariant-loop-curve g l = Gathers g.O.Sink.holds g.O.Sink.faults l.fn.out l.out l.fn.to l.to (flat_map (line_at l.top l.all.points.now l.all.curves.now) (take l.curve-index l.group))
