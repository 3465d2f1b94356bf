use Rattle.timing_steps.proofs.Steps.{steps}
use Rattle.timing_steps.proofs.steps_are_the_guests.Goals as goal

pub returns : goal.returns
returns g c = steps g.G.Lawful.experiment
