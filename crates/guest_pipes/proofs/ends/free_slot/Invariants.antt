use Rattle.std.proofs.Common.{◌≡◌, ℕ, ◌<◌, false, get_or, None, is_none}
use Rattle.guest_pipes.proofs.ends.free_slot.Given as goal

abbrev pub invariant-loop-slot : goal.invariant-loop-slot
invariant-loop-slot l = (k : ℕ) → k < l.slot → is_none (get_or l.ends k None) ≡ false
