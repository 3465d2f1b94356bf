use Rattle.std.proofs.Common.{◌≡◌, ◌≤◌, take, length, All, IfSome}
use Rattle.average_values.specs.Values.{IsValue}
use Rattle.average_steps.specs.Steps.{seed_values}
use Rattle.average_steps.proofs.totals.seed_values.Given as goal

abbrev pub invariant-loop-run : goal.invariant-loop-run
invariant-loop-run l = record {
  values : l.values.items ≡ seed_values l.base l.point (take l.run-index l.runs);
  small : All (λ v. IfSome v IsValue) l.values.items;
  few : length l.values.items ≤ l.run-index;
}
