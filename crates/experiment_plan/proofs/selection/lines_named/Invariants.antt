use Rattle.std.specs.Option.{option_copied}
use Rattle.experiment_plan.specs.Lists.{length_left}
use Rattle.experiment_plan.specs.Selected.{ids}
use Rattle.experiment_plan.proofs.Naming.{Continues}
use Rattle.experiment_plan.proofs.selection.lines_named.Given as goal

-- the lines so far and those of the pieces that are left are those of all
abbrev pub invariant-loop-left : goal.invariant-loop-left
invariant-loop-left l = Continues l.index.lines l.text (ids l.lines.items) (option_copied l.left)

abbrev pub decreases-loop-left : goal.decreases-loop-left
decreases-loop-left l = length_left (option_copied l.left)
