use Rattle.timed_guest.proofs.Follow.{plain_alike}
use Rattle.timed_guest.proofs.plain_runs_follow.Goals as goal

pub returns : goal.returns
returns c = λ t none index r small. plain_alike t index r none small
