use Rattle.profile_reader.proofs.Cuts.{IsWhole}
use Rattle.profile_reader.proofs.item.item_length.Given as goal

abbrev pub invariant-loop-i : goal.invariant-loop-i
invariant-loop-i l = IsWhole l.i l.text
