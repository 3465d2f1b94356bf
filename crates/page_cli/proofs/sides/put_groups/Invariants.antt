use Rattle.std.proofs.Common.{length}
use Rattle.page_cli.specs.Page.{lines_text}
use Rattle.page_cli.proofs.Pages.{SoFar}
use Rattle.page_cli.proofs.sides.put_groups.Given as goal

abbrev pub invariant-loop-rest : goal.invariant-loop-rest
invariant-loop-rest g l = SoFar g.O.Sink.holds g.O.Sink.faults l.fn.out l.out l.fn.to l.to (lines_text l.most l.all.points.now l.all.curves.now) l.all.curves.now l.rest

abbrev pub decreases-loop-rest : goal.decreases-loop-rest
decreases-loop-rest g l = length l.rest
