use Rattle.std.proofs.Common.{◌-◌}
use Rattle.timing_state.specs.Held.{seats_of}
use Rattle.timing_state.proofs.Line.{Filling}
use Rattle.timing_state.proofs.seats.fill.Given as goal

abbrev pub invariant-filling : goal.invariant-filling
invariant-filling l = Filling l.cores l.moment (seats_of l.initial.seats) l.initial.started (seats_of l.seats) l.started

abbrev pub decreases-filling : goal.decreases-filling
decreases-filling l = l.cores - l.seats.on
