use Rattle.std.proofs.Common.{◌≡◌, ◌<◌}
use Rattle.std.specs.List.{All}
use Rattle.coz_types.specs.declared.LineId.{LineId}
use Rattle.experiment_plan.specs.Selected.{ids}
use Rattle.coz_commands.proofs.Trials.{so_many}
use Rattle.coz_commands.proofs.trial.tenths.Given as goal

-- the lines so far
abbrev pub invariant-loop-i : goal.invariant-loop-i
invariant-loop-i l = record {
  are : ids l.lines.items ≡ so_many l.count l.tenth l.i;
  below : All (λ (line : LineId). line.0 < l.count) l.lines.items;
}
