use Rattle.hart_states.proofs.Tiling.{tile}
use Rattle.hart_states.proofs.intervals_tile.Goals as goal

pub returns : goal.returns
returns c = tile
