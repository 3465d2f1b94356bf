use Rattle.timed_guest.proofs.Alone.{usual_by}
use Rattle.timed_guest.proofs.guest.are_usual.Goals as goal

pub returns : goal.returns
returns c = usual_by c.args.costs c.usual.result c.eq.result c.usual.ensures.usual c.eq.ensures
