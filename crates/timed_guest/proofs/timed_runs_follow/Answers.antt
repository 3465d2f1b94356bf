use Rattle.timed_guest.proofs.Follow.{timed_alike}
use Rattle.timed_guest.proofs.timed_runs_follow.Goals as goal

pub returns : goal.returns
returns c = λ t is index r small. timed_alike t index r is small
