use Rattle.std.proofs.Common.{rules}
use Rattle.gain_words.proofs.costs.with_piece.Goals as goal

pub returns-then-eq : goal.returns-then-eq
returns-then-eq c = search rules
