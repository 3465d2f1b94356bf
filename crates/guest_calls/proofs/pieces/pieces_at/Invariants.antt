use Rattle.std.proofs.Common.{◌≡◌}
use Rattle.arrayvec.specs.ArrayVec.{array_vec_len}
use Rattle.guest_calls.specs.Calls.{pieces_at}
use Rattle.guest_calls.proofs.pieces.pieces_at.Given as goal

abbrev pub invariant-loop-i : goal.invariant-loop-i
invariant-loop-i l = record {
  items : l.pieces.items ≡ pieces_at l.memory l.address l.i;
  size : array_vec_len l.pieces ≡ l.i;
}
