use Rattle.std.proofs.Common.{◌≡◌, ◌+◌, ◌%◌, ◌^◌, drop, true}
use Rattle.guest_calls.specs.Output.{with_bytes_written}
use Rattle.guest_calls.specs.Calls.{is_each_readable, bytes_of, total}
use Rattle.guest_calls.proofs.output.Output.append_each.Given as goal

abbrev pub invariant-loop-piece : goal.invariant-loop-piece
invariant-loop-piece l = record {
  output : with_bytes_written (bytes_of l.memory (drop l.piece-index l.pieces)) l.self ≡ with_bytes_written (bytes_of l.memory l.pieces) l.fn.self;
  readable : is_each_readable l.memory (drop l.piece-index l.pieces) ≡ true;
  sum : (l.total + total (drop l.piece-index l.pieces)) % 2 ^ 64 ≡ total l.pieces % 2 ^ 64;
  fits : l.total % 2 ^ 64 ≡ l.total;
}
