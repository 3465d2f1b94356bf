use Rattle.functions_cli.proofs.One.{verdicts_one}
use Rattle.functions_cli.proofs.top.verdicts_are_one.Goals as goal

pub returns : goal.returns
returns c = verdicts_one
