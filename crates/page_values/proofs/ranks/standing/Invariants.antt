use Rattle.std.proofs.Common.{◌≡◌, ◌≤◌, length, take}
use Rattle.std.specs.List.{filter}
use Rattle.page_values.specs.Ranks.{stands}
use Rattle.page_values.proofs.ranks.standing.Given as goal

abbrev pub invariant-loop-curve : goal.invariant-loop-curve
invariant-loop-curve l = record {
  count : l.count ≡ length (filter stands (take l.curve-index l.curves));
  within : l.count ≤ l.curve-index;
}
