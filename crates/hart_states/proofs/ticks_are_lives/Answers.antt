use Rattle.hart_states.proofs.Lives.{lives}
use Rattle.hart_states.proofs.ticks_are_lives.Goals as goal

pub returns : goal.returns
returns c = lives
