use Rattle.std.proofs.Common.{rules}
use Rattle.gain_words.proofs.scan.take_value.Goals as goal

pub returns-in-Slice : goal.returns-in-Slice
returns-in-Slice c = search rules
