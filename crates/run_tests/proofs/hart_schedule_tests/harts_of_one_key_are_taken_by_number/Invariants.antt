use Rattle.std.proofs.Common.{◌≡◌, length}
use Rattle.run_tests.proofs.hart_schedule_tests.harts_of_one_key_are_taken_by_number.Given as goal

abbrev pub invariant-loop-hart : goal.invariant-loop-hart
invariant-loop-hart g l = length l.schedule ≡ 256
