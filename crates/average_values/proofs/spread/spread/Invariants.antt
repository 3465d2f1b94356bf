use Rattle.std.proofs.Common.{◌≡◌, ◌≤◌, ◌*◌, take}
use Rattle.std.specs.List.{sum_by}
use Rattle.wide_numbers.specs.Wide.{number}
use Rattle.average_values.specs.Values.{deviation, most_deviation}
use Rattle.average_values.proofs.spread.spread.Given as goal

abbrev pub invariant-loop-value : goal.invariant-loop-value
invariant-loop-value l = record {
  squares : number l.squares ≡ sum_by (λ v. deviation l.count l.sum v * deviation l.count l.sum v) (take l.value-index l.values);
  small : number l.squares ≤ l.value-index * (most_deviation l.count * most_deviation l.count);
}
