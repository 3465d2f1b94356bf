use Rattle.program_load.proofs.Naming.{points_below}
use Rattle.program_load.proofs.selection.progress_points.Goals as goal

pub returns-clause-below : goal.returns-clause-below
returns-clause-below c = points_below c.args.index.now c.in_ok-lines.lines.items c.deref.result.now c.points_of.result c.deref.ensures.value c.in_ok-lines.ensures.below c.points_of.ensures.points
