use Rattle.guest_areas.specs.Space.{SharesRegions}
use Rattle.guest_tests.proofs.guest_areas_tests.check_calls.Given as goal

abbrev pub invariant-loop-row : goal.invariant-loop-row
invariant-loop-row g l = SharesRegions l.areas l.memory
