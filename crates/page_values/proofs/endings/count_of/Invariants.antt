use Rattle.std.proofs.Common.{◌≡◌, ◌≤◌, length, take}
use Rattle.std.specs.List.{filter}
use Rattle.page_values.specs.Endings.{ended_so}
use Rattle.page_values.proofs.endings.count_of.Given as goal

abbrev pub invariant-loop-summary : goal.invariant-loop-summary
invariant-loop-summary l = record {
  count : l.count ≡ length (filter (ended_so l.kind) (take l.summary-index l.summaries));
  within : l.count ≤ l.summary-index;
}
