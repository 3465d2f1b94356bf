use Rattle.timing_steps.proofs.Room.{line_room}
use Rattle.timing_steps.proofs.line_has_room.Goals as goal

pub returns : goal.returns
returns g c = line_room g.G.Lawful.experiment g.G.Lawful.good g.G.Numbered.below g.met.G.Lawful.law g.met.G.Lawful.fresh g.met.G.Numbered.numbered
