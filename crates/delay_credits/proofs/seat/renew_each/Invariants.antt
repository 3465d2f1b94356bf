use Rattle.std.proofs.Common.{ℕ, ◌≡◌, ◌<◌, ◌≤◌, slice_index_or}
use Rattle.delay_credits.specs.declared.seat.Seat.{Seat}
use Rattle.delay_credits.specs.Seats.{later_seat}
use Rattle.delay_credits.proofs.seat.renew_each.Given as goal

abbrev pub invariant-loop-index : goal.invariant-loop-index
invariant-loop-index l = record {
  done : (k : ℕ) → k < l.index → (d : Seat) → slice_index_or l.seats k d ≡ later_seat l.raises l.new (slice_index_or l.initial.seats k d);
  rest : (k : ℕ) → l.index ≤ k → (d : Seat) → slice_index_or l.seats k d ≡ slice_index_or l.initial.seats k d;
}
