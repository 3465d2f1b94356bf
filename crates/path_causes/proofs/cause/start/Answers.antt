use Rattle.std.proofs.Common.{rules}
use Rattle.path_causes.proofs.cause.start.Goals as goal

pub returns : goal.returns
returns c = search rules
