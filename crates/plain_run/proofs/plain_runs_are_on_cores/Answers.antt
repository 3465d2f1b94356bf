use Rattle.plain_run.proofs.OnCores.{on_cores_is}
use Rattle.plain_run.proofs.plain_runs_are_on_cores.Goals as goal

pub returns : goal.returns
returns c = on_cores_is
