use Rattle.function_sequences.proofs.One.{sequences_one}
use Rattle.function_sequences.proofs.program.sequences_are_one.Goals as goal

pub returns : goal.returns
returns c = sequences_one
