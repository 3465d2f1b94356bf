use Rattle.line_remap.proofs.Adding.{kept_next}
use Rattle.line_remap.proofs.marks.kept_marks.Goals as goal

pub loop-line-preserved : goal.loop-line-preserved
loop-line-preserved c = (
  kept_next c.args.index.now c.args.kept.now c.loop-line.line-index c.loop-line.marks.items c.push_kept.new.marks.items c.loop-line-test.true c.loop-line.invariant.0 c.in_ok-push_kept.ensures.marks,
  c.in_ok-push_kept.ensures.right c.loop-line.invariant.1,
)
