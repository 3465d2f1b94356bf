use Rattle.std.proofs.Common.{◌≡◌, ◌≤◌, length}
use Rattle.latency_points.specs.Flow.{counted}
use Rattle.run_tests.proofs.latency_points_tests.latency_of.Given as goal

-- each call so far is counted, and the latest moment is that of the last
abbrev pub invariant-loop-arrives : goal.invariant-loop-arrives
invariant-loop-arrives l =
    (l.flow.latest ≡ l.latest) × (counted l.flow ≡ l.arrives-index) × (length l.calls ≤ 8)
