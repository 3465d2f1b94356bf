use Rattle.profile_reader.proofs.Colons.{IsPlain}
use Rattle.profile_reader.proofs.endings.cut.Given as goal

abbrev pub invariant-loop-i : goal.invariant-loop-i
invariant-loop-i l = IsPlain l.i l.text
