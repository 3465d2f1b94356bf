use Rattle.std.proofs.Common.{rules}
use Rattle.coz_commands.proofs.source.source_answer.Goals as goal

pub returns-in_err-assembled-clause-verdict : goal.returns-in_err-assembled-clause-verdict
returns-in_err-assembled-clause-verdict c = search rules

pub returns-clause-verdict : goal.returns-clause-verdict
returns-clause-verdict c = search rules
