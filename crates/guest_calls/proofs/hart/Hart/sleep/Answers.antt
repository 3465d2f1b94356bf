use Rattle.std.proofs.Common.{refl}
use Rattle.guest_calls.proofs.hart.Hart.sleep.Goals as goal

pub returns : goal.returns
returns c = rw c.answer.ensures refl
