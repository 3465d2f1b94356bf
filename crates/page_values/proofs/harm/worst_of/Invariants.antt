use Rattle.std.proofs.Common.{◌≡◌, drop}
use Rattle.page_values.specs.Harm.{worst_of}
use Rattle.page_values.proofs.harm.worst_of.Given as goal

abbrev pub invariant-loop-i : goal.invariant-loop-i
invariant-loop-i l = l.worst ≡ worst_of (drop l.i l.steps)
