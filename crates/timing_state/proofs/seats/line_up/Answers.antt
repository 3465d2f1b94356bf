use Rattle.std.proofs.Common.{ap, List, ℕ}
use Rattle.timing_laws.specs.Cores.{Seats}
use Rattle.timing_state.specs.Held.{seats_of}
use Rattle.timing_state.proofs.Line.{low_at, lined_more}
use Rattle.timing_state.proofs.seats.line_up.Goals as goal

pub push-requires-clause-low : goal.push-requires-clause-low
push-requires-clause-low c = low_at c.harts-harts.result.now c.args.others.now c.loop-i.i (record { 0 = 0 }) c.harts-harts.ensures c.requires.low c.loop-i-test.true

pub loop-i-preserved : goal.loop-i-preserved
loop-i-preserved c =
    lined_more c.harts-harts.result.now c.loop-i.i (record { 0 = 0 }) (seats_of c.args.seats.now) (seats_of c.loop-i.seats) _ c.loop-i-test.true c.loop-i.invariant
    (ap (λ (line : List ℕ). let q : Seats = record (seats_of c.loop-i.seats) { ready = line } in q) c.push.ensures)
