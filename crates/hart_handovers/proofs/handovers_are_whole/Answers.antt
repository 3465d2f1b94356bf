use Rattle.hart_handovers.proofs.Rooting.{are_whole}
use Rattle.hart_handovers.proofs.handovers_are_whole.Goals as goal

pub returns : goal.returns
returns c = are_whole
