use Rattle.std.proofs.Common.{length}
use Rattle.page_cli.specs.Page.{harm_text, view_of}
use Rattle.page_cli.proofs.Pages.{SoFar}
use Rattle.page_cli.proofs.page.put_harms.Given as goal

abbrev pub invariant-loop-rest : goal.invariant-loop-rest
invariant-loop-rest g l = SoFar g.O.Sink.holds g.O.Sink.faults l.fn.out l.out l.fn.to l.to (harm_text (view_of l.view) l.profile) l.curves l.rest

abbrev pub decreases-loop-rest : goal.decreases-loop-rest
decreases-loop-rest g l = length l.rest
