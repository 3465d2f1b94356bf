use Rattle.std.proofs.Common.{◌≡◌, ◌≤◌, ◌*◌, take, pos, ◌+ℤ◌, fold, All}
use Rattle.std.specs.Int.RustNames.{unsigned_abs}
use Rattle.average_values.specs.Values.{most_sum, most_value, IsValue}
use Rattle.average_values.proofs.sums.total.Given as goal

abbrev pub invariant-loop-value : goal.invariant-loop-value
invariant-loop-value l = record {
  sum : l.sum ≡ fold ◌+ℤ◌ (pos 0) (take l.value-index l.values);
  of_values : All IsValue l.values → unsigned_abs l.sum ≤ l.value-index * most_value;
  small : unsigned_abs l.sum ≤ l.value-index * most_sum;
}
