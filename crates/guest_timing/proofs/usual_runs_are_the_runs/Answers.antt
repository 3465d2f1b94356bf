use Rattle.guest_timing.proofs.Usual.{usual_run_is}
use Rattle.guest_timing.proofs.usual_runs_are_the_runs.Goals as goal

pub returns : goal.returns
returns c = usual_run_is
