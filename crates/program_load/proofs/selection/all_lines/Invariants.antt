use Rattle.std.proofs.Common.{◌≡◌}
use Rattle.std.specs.List.{range_with_len}
use Rattle.experiment_plan.specs.Selected.{ids}
use Rattle.program_load.proofs.selection.all_lines.Given as goal

-- the lines so far
abbrev pub invariant-loop-line : goal.invariant-loop-line
invariant-loop-line l = ids l.lines.items ≡ range_with_len 0 l.line
