use Rattle.std.proofs.Common.{◌≡◌, ◌*◌, ◌≤◌, length, take}
use Rattle.std.specs.List.{filter, sum_by}
use Rattle.page_values.specs.Shapes.{counts, step_level}
use Rattle.page_values.proofs.shapes.mean_of.Given as goal

abbrev pub invariant-loop-step : goal.invariant-loop-step
invariant-loop-step l = record {
  total : l.levels.total ≡ sum_by step_level (filter counts (take l.step-index l.steps));
  count : l.levels.count ≡ length (filter counts (take l.step-index l.steps));
  within : l.levels.total ≤ 200000000 * l.levels.count;
  few : l.levels.count ≤ l.step-index;
}
