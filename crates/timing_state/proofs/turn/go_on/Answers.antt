use Rattle.std.proofs.Common.{ℕ, List, length, ap, arith}
use Rattle.timing_laws.specs.Cores.{Seats}
use Rattle.timing_state.specs.Held.{seats_of}
use Rattle.timing_state.proofs.Turns.{goes_over, goes_within, shifted_length}
use Rattle.timing_state.proofs.turn.go_on.Goals as goal

pub end_slice-requires-clause-room : goal.end_slice-requires-clause-room
end_slice-requires-clause-room c =
    let out = ap (λ (xs : List ℕ). length xs) c.shift.ensures.others in
    let line = ap (λ (q : Seats). length q.ready) c.shift.ensures.seats in
    let sum = shifted_length c.args.turn.cores c.args.turn.slice_end c.args.others.now (seats_of c.args.seats.now) in
    let room = c.requires.room in
    omega arith

pub returns-then-is_over : goal.returns-then-is_over
returns-then-is_over c =
    goes_over c.args.turn.cores c.args.turn.slice_end c.args.turn.hart.0 c.args.turn.is_over c.args.others.now c.shift.new.others (seats_of c.args.seats.now) (seats_of c.shift.new.seats) _ c.if-is_over.true c.shift.ensures.seats c.shift.ensures.others c.end_slice.ensures

pub returns : goal.returns
returns c =
    goes_within c.args.turn.cores c.args.turn.slice_end c.args.turn.hart.0 c.args.turn.is_over c.args.others.now c.shift.new.others (seats_of c.args.seats.now) (seats_of c.shift.new.seats) c.if-is_over.false c.shift.ensures.seats c.shift.ensures.others
