use Rattle.coz_commands.specs.Kinds.{printed_of}
use Rattle.coz_commands.proofs.experiment.judge_run.Goals as goal

pub returns-clause-verdict : goal.returns-clause-verdict
unfolding printed_of
returns-clause-verdict g c = c.judge_kind.ensures.verdict
