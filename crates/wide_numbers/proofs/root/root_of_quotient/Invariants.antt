use Rattle.std.proofs.Common.{◌*◌, ◌^◌, ◌<◌, ◌≤◌, ◌-◌}
use Rattle.wide_numbers.specs.Wide.{number}
use Rattle.wide_numbers.proofs.root.root_of_quotient.Given as goal

abbrev pub invariant-loop-low : goal.invariant-loop-low
invariant-loop-low l = record {
  rises : l.low < l.high;
  small : l.high ≤ 2 ^ 126;
  in_ : l.low * l.low * l.divisor ≤ number l.dividend;
  next : number l.dividend < l.high * l.high * l.divisor;
}

abbrev pub decreases-loop-low : goal.decreases-loop-low
decreases-loop-low l = l.high - l.low
