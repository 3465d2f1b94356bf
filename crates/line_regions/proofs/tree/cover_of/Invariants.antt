use Rattle.line_regions.proofs.Nodes.{CoversTo}
use Rattle.line_regions.proofs.tree.cover_of.Given as goal

abbrev pub invariant-loop-point : goal.invariant-loop-point
invariant-loop-point l = CoversTo l.points l.point-index l.cover
