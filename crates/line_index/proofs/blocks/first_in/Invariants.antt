use Rattle.std.proofs.Common.{◌-◌}
use Rattle.line_index.proofs.Least.{Reached}
use Rattle.line_index.proofs.blocks.first_in.Given as goal

abbrev pub invariant-loop-at : goal.invariant-loop-at
invariant-loop-at l = Reached l.lines l.start l.end l.at l.line

abbrev pub decreases-loop-at : goal.decreases-loop-at
decreases-loop-at l = l.end - l.at
