use Rattle.std.proofs.Common.{arith}
use Rattle.progress_points.proofs.Gathering.{gathered}
use Rattle.progress_points.proofs.marks.marks_by_line.Goals as goal

pub loop-point-preserved : goal.loop-point-preserved
loop-point-preserved c =
    gathered c.args.index.now.entries c.args.lines.now c.loop-point.point _ c.entries.result.now c.loop-point.marks.items c.add_marks.new.marks.items (omega arith) c.entries.ensures c.in_ok-add_marks.ensures c.loop-point.invariant
