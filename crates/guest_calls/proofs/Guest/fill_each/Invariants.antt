use Rattle.std.proofs.Common.{◌≡◌, ◌≤◌, ◌+◌, drop, length, true}
use Rattle.guest_calls.specs.Guest.{memory_of}
use Rattle.guest_calls.specs.Calls.{filled_parts, with_read, total, is_each_writable}
use Rattle.guest_calls.proofs.Guest.fill_each.Given as goal

abbrev pub invariant-loop-piece : goal.invariant-loop-piece
invariant-loop-piece l = record {
  done : with_read (filled_parts (drop l.piece-index l.pieces) (length l.self.input)) l.self ≡ with_read (filled_parts l.pieces (length l.fn.self.input)) l.fn.self;
  writable : is_each_writable (memory_of l.self) (filled_parts (drop l.piece-index l.pieces) (length l.self.input)) ≡ true;
  count : length l.fn.self.input + total (filled_parts (drop l.piece-index l.pieces) (length l.self.input)) ≡ length l.self.input + total (filled_parts l.pieces (length l.fn.self.input));
  taken : length l.self.input ≤ length l.fn.self.input;
}
