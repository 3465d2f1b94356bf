use Rattle.std.proofs.Common.{length}
use Rattle.line_regions.proofs.tree.+add_points.Given as goal

abbrev pub decreases-add_points : goal.decreases-add_points
decreases-add_points l = length l.points.now
