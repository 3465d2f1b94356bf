use Rattle.std.proofs.Common.{◌≡◌}
use Rattle.std.specs.List.{list_all}
use Rattle.std.specs.Option.{option_copied}
use Rattle.experiment_plan.specs.Lists.{is_line, is_list, pieces_left, length_left}
use Rattle.experiment_plan.proofs.line.is_list.Given as goal

-- the pieces before are lines
abbrev pub invariant-loop-left : goal.invariant-loop-left
invariant-loop-left l = list_all is_line (pieces_left (option_copied l.left)) ≡ is_list l.text

abbrev pub decreases-loop-left : goal.decreases-loop-left
decreases-loop-left l = length_left (option_copied l.left)
