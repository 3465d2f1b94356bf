use Rattle.hart_states.proofs.Making.{making}
use Rattle.hart_states.proofs.earliest_is_making.Goals as goal

pub returns : goal.returns
returns c = making
