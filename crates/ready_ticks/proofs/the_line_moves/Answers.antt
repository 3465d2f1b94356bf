use Rattle.ready_ticks.proofs.Moves.{line_moves}
use Rattle.ready_ticks.proofs.the_line_moves.Goals as goal

pub returns : goal.returns
returns c = line_moves
