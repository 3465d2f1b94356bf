use Rattle.timing_state.specs.Held.{seats_of}
use Rattle.timing_state.proofs.Line.{filling_first, filling_begins, filling_done, filling_room}
use Rattle.timing_state.proofs.seats.fill.Goals as goal

pub start_first-requires-clause-room : goal.start_first-requires-clause-room
start_first-requires-clause-room c = filling_room _ _ _ _ _ _ c.filling.invariant (c.can_start.ensures.yes c.filling-test.true).1

pub filling-preserved : goal.filling-preserved
filling-preserved c =
    let e = c.start_first.ensures in
    let free = (c.can_start.ensures.yes c.filling-test.true).0 in
    rw e.2 (filling_first _ _ e.0 _ _ (seats_of c.filling.seats) c.filling.started (seats_of c.start_first.new.seats) c.filling.invariant free e.1)

pub returns : goal.returns
returns c =
    let done = filling_done _ _ _ _ _ _ c.filling.invariant (c.can_start.ensures.no c.filling-test.false) in
    record { seats = done.0; started = done.1 }

pub filling-init : goal.filling-init
filling-init c = filling_begins c.args.cores c.args.moment (seats_of c.args.seats.now) c.args.started.now c.requires.room
