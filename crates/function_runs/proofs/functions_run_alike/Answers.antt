use Rattle.function_runs.proofs.Alike.{run_alike}
use Rattle.function_runs.proofs.functions_run_alike.Goals as goal

pub returns : goal.returns
returns c = run_alike
