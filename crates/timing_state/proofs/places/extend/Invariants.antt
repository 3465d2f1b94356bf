use Rattle.std.proofs.Common.{◌≤◌, ◌-◌}
use Rattle.std.specs.Vec.{vec_capacity, vec_len}
use Rattle.timing_state.proofs.places.extend.Given as goal
use Rattle.timing_state.proofs.Maps.{Extended}

abbrev pub invariant-loop-fresh : goal.invariant-loop-fresh
invariant-loop-fresh g l = Extended l.fresh l.count l.initial.items.items l.items.items × (vec_capacity l.initial.items ≤ vec_capacity l.items)

abbrev pub decreases-loop-fresh : goal.decreases-loop-fresh
decreases-loop-fresh g l = l.count - vec_len l.items
