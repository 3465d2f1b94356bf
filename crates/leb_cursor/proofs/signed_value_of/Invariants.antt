use Rattle.std.proofs.Common.{◌≡◌, ◌≤◌, length, drop}
use Rattle.leb_cursor.proofs.SignLemmas.{above, sign}
use Rattle.leb_cursor.proofs.signed_value_of.Given as goal

abbrev pub invariant-loop-i : goal.invariant-loop-i
invariant-loop-i l = (l.value ≡ above (sign l.bytes) (drop l.i l.bytes)) × (l.i ≤ length l.bytes)

abbrev pub decreases-loop-i : goal.decreases-loop-i
decreases-loop-i l = l.i
