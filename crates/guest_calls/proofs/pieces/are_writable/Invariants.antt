use Rattle.std.proofs.Common.{◌≡◌, drop}
use Rattle.guest_calls.specs.Calls.{filled_parts, is_each_writable}
use Rattle.guest_calls.proofs.pieces.are_writable.Given as goal

abbrev pub invariant-loop-piece : goal.invariant-loop-piece
invariant-loop-piece l = is_each_writable l.memory (filled_parts (drop l.piece-index l.pieces) l.left) ≡ is_each_writable l.memory (filled_parts l.pieces l.count)
