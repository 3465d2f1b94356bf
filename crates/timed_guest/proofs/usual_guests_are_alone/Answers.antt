use Rattle.timed_guest.proofs.Alone.{guest_alone}
use Rattle.timed_guest.proofs.usual_guests_are_alone.Goals as goal

pub returns : goal.returns
returns c = guest_alone
