use Rattle.std.proofs.Common.{length}
use Rattle.page_cli.specs.Page.{side_at}
use Rattle.page_values.proofs.Along.{places_left}
use Rattle.page_cli.proofs.OneLine.{ArePut}
use Rattle.page_cli.proofs.sides.put_sides.Given as goal

abbrev pub invariant-loop-at : goal.invariant-loop-at
invariant-loop-at g l = ArePut (side_at l.top l.all.points.now l.label) l.label l.all.curves.now g.O.Sink.holds g.O.Sink.faults l.fn.out l.out l.fn.to l.to l.at

abbrev pub decreases-loop-at : goal.decreases-loop-at
decreases-loop-at g l = places_left (length l.all.curves.now) l.at
