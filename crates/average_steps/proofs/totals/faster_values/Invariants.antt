use Rattle.std.proofs.Common.{◌≡◌, ◌≤◌, take, length, All, IfSome}
use Rattle.average_values.specs.Values.{IsValue}
use Rattle.average_steps.specs.Steps.{faster_values}
use Rattle.average_steps.proofs.totals.faster_values.Given as goal

abbrev pub invariant-loop-step : goal.invariant-loop-step
invariant-loop-step l = record {
  values : l.values.items ≡ faster_values (take l.step-index l.steps);
  small : All (λ v. IfSome v IsValue) l.values.items;
  few : length l.values.items ≤ l.step-index;
}
