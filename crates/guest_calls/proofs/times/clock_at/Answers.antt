use Rattle.std.proofs.Common.{refl}
use Rattle.guest_calls.proofs.times.clock_at.Goals as goal

pub returns : goal.returns
returns c = refl
