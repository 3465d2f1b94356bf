use Rattle.std.proofs.Common.{◌≡◌}
use Rattle.run_tests.proofs.latency_points_tests.as_many_arrivals_and_departures_as_there_may_be_are_counted.Given as goal

-- as many arrived as departed, all at 0
abbrev pub invariant-loop-i : goal.invariant-loop-i
invariant-loop-i g l =
    (l.flow.arrivals ≡ l._i) × (l.flow.departures ≡ l._i) × (l.flow.strays ≡ 0) × (l.flow.latest ≡ 0)
