use Rattle.timing_laws.specs.Noted.{noting}
use Rattle.timing_laws.proofs.Notes.{noted_lawful}
use Rattle.ready_ticks.proofs.Passing.{run_passes}
use Rattle.ready_ticks.proofs.runs_pass.Goals as goal

pub returns : goal.returns
returns g c = λ noted w n t.
    run_passes w (noting noted g.G.Lawful.experiment) (λ m. g.G.Lawful.good m.guest) (noted_lawful noted g.G.Lawful.experiment g.G.Lawful.good g.met.G.Lawful.law)
    (λ m h v k good runs among. g.met.G.Lawful.fresh m.guest h v k good runs among) n t
