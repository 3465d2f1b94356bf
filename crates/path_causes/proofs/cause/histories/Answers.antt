use Rattle.std.proofs.Common.{refl}
use Rattle.path_causes.proofs.cause.histories.Goals as goal

pub returns : goal.returns
returns c = record {
  starts = λ past e ticks. refl;
  retires = λ past e. refl;
  sleeps = λ past e due moment. refl;
  wakes = λ past ticks. refl;
}
