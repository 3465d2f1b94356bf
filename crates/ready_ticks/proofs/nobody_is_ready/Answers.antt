use Rattle.ready_ticks.proofs.Nobody.{never_ready}
use Rattle.ready_ticks.proofs.nobody_is_ready.Goals as goal

pub returns : goal.returns
returns g c = λ n w enough hart moves.
    never_ready n w g.G.Lawful.experiment g.G.Lawful.good g.met.G.Lawful.law g.met.G.Lawful.fresh g.G.Counted.count g.G.Counted.limit g.met.G.Counted.counted enough hart moves
