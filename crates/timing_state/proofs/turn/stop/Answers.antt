use Rattle.machines.specs.declared.Fate.TheVariants.{Waits}
use Rattle.timing_laws.specs.Cores.{freed}
use Rattle.timing_state.specs.Held.{seats_of}
use Rattle.timing_state.proofs.Turns.{stops}
use Rattle.timing_state.proofs.turn.stop.Goals as goal

pub returns : goal.returns
returns c =
    stops c.args.fate c.args.turn.cores c.args.turn.slice_end c.args.others.now c.shift.new.others (freed Waits c.args.turn.hart.0 (seats_of c.args.seats.now)) (seats_of c.leave.new.seats) (seats_of c.shift.new.seats) c.leave.ensures c.shift.ensures.seats c.shift.ensures.others
