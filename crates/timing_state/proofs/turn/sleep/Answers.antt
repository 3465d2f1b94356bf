use Rattle.std.proofs.Common.{ℕ, ◌-◌, List, ap, ◌∙◌}
use Rattle.machines.specs.declared.Fate.TheVariants.{Sleeps}
use Rattle.timing_laws.specs.Cores.{Seats, freed}
use Rattle.timing_state.specs.Held.{seats_of}
use Rattle.timing_state.proofs.Turns.{stops}
use Rattle.timing_state.proofs.turn.sleep.Goals as goal

pub returns : goal.returns
returns c =
    let s = seats_of c.args.seats.now in
    stops (Sleeps c.args.moment) c.args.turn.cores c.args.turn.slice_end c.args.others.now c.shift.new.others (freed (Sleeps c.args.moment) c.args.turn.hart.0 s) (seats_of c.leave.new.seats) (seats_of c.shift.new.seats)
    (c.leave.ensures ∙ ap (λ (ends : List ℕ). let q : Seats = record { ready = s.ready; on = s.on - 1; slice_ends = ends } in q) c.put.ensures)
    c.shift.ensures.seats c.shift.ensures.others
