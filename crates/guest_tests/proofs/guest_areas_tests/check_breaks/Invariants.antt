use Rattle.guest_areas.specs.Space.{SharesRegions}
use Rattle.guest_tests.proofs.guest_areas_tests.check_breaks.Given as goal

abbrev pub invariant-loop-to : goal.invariant-loop-to
invariant-loop-to g l = SharesRegions l.areas l.memory
