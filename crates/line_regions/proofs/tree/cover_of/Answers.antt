use Rattle.std.proofs.Common.{refl}
use Rattle.line_regions.proofs.Nodes.{cover_more}
use Rattle.line_regions.proofs.tree.cover_of.Goals as goal

pub loop-point-preserved : goal.loop-point-preserved
loop-point-preserved c =
    cover_more c.loop-point.cover c.widened-cover.result _ c.widened-cover.ensures.bounds c.widened-cover.ensures.numbers c.widened-cover.ensures.first
    c.args.points.now c.loop-point.point-index _ refl c.loop-point-test.true c.loop-point.invariant
