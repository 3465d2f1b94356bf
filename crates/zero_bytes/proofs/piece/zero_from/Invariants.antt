use Rattle.std.proofs.Common.{ℕ, ◌≡◌, ◌<◌, ◌≤◌, length, get_or}
use Rattle.zero_bytes.proofs.piece.zero_from.Given as goal

abbrev pub invariant-loop-i : goal.invariant-loop-i
invariant-loop-i l = record {
  same_length : length l.bytes ≡ length l.initial.bytes;
  zeros : (j : ℕ) → l.start ≤ j → j < l.i → get_or l.bytes j 0 ≡ 0;
  others : (j : ℕ) → (l.start ≤ j → j < l.i → ⊥) → get_or l.bytes j 0 ≡ get_or l.initial.bytes j 0;
}
