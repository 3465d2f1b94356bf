use Rattle.std.proofs.Common.{rules}
use Rattle.causal_curves.proofs.measures.net.Goals as goal

pub returns : goal.returns
returns c = search rules
