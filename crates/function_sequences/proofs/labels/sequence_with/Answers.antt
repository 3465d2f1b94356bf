use Rattle.std.proofs.Common.{refl}
use Rattle.function_sequences.proofs.labels.sequence_with.Goals as goal

pub returns-clause-size : goal.returns-clause-size
returns-clause-size c = refl
