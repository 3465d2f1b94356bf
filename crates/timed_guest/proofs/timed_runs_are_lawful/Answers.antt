use Rattle.timed_guest.proofs.Law.{lawful}
use Rattle.timed_guest.proofs.timed_runs_are_lawful.Goals as goal

pub returns : goal.returns
returns c = lawful
