use Rattle.critical_path.proofs.Usual.{usual_events}
use Rattle.critical_path.proofs.usual_events_are_alone.Goals as goal

pub returns : goal.returns
returns c = usual_events
