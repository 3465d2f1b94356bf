use Rattle.guest_timing.proofs.Machines.{machine_run_is}
use Rattle.guest_timing.proofs.machine_runs_are_timed.Goals as goal

pub returns : goal.returns
returns c = machine_run_is
