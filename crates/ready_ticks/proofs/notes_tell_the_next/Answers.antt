use Rattle.ready_ticks.proofs.Told.{tells_next}
use Rattle.ready_ticks.proofs.notes_tell_the_next.Goals as goal

pub returns : goal.returns
returns c = tells_next
