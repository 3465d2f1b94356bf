use Rattle.std.proofs.Common.{◌≡◌, ℕ, ◌-◌, List, length, sym, ap, ◌∙◌, arith, length-append, [], ◌∷◌}
use Rattle.timing_laws.specs.Cores.{Seats, given_up}
use Rattle.timing_state.specs.Held.{seats_of}
use Rattle.timing_state.proofs.Turns.{slice_renewed, slice_given}
use Rattle.timing_state.proofs.turn.end_slice.Goals as goal

pub returns-then-is_free : goal.returns-then-is_free
returns-then-is_free c =
    slice_renewed c.args.turn.cores c.args.turn.slice_end c.args.turn.hart.0 c.args.first.now (seats_of c.args.seats.now) _ (sym c.is_free.ensures ∙ c.if-is_free.true)
    (ap (λ (ends : List ℕ). let q : Seats = record (seats_of c.args.seats.now) { slice_ends = ends } in q) c.put.ensures)

pub fill-requires-clause-room : goal.fill-requires-clause-room
fill-requires-clause-room c =
    let line = ap (λ (xs : List ℕ). length xs) c.push.ensures in
    let more = length-append c.args.seats.now.ready (c.args.turn.hart.0 ∷ []) in
    let same = ap (λ (q : Seats). length q.ready) c.leave.ensures in
    let room = c.requires.room in
    omega arith

pub returns : goal.returns
returns c =
    let s = seats_of c.args.seats.now in
    let given : seats_of c.leave.new.seats ≡ given_up c.args.turn.hart.0 s =
    c.leave.ensures ∙ ap (λ (line : List ℕ). let q : Seats = record { ready = line; on = s.on - 1; slice_ends = s.slice_ends } in q) c.push.ensures in
    slice_given c.args.turn.cores c.args.turn.slice_end c.args.turn.hart.0 c.args.first.now c.fill.new.started s (seats_of c.leave.new.seats) (seats_of c.fill.new.seats) (sym c.is_free.ensures ∙ c.if-is_free.false) given c.fill.ensures.seats c.fill.ensures.started
