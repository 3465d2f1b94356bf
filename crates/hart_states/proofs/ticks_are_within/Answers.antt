use Rattle.hart_states.proofs.Lives.{within}
use Rattle.hart_states.proofs.ticks_are_within.Goals as goal

pub returns : goal.returns
returns c = within
