use Rattle.std.proofs.Common.{◌≡◌}
use Rattle.virtual_run.specs.Lead.{arguments}
use Rattle.run_tests.proofs.lead_tests.step_to_the_end.Given as goal

abbrev pub invariant-loop : goal.invariant-loop
invariant-loop l = arguments l.machine ≡ arguments l.initial.machine
