use Rattle.std.proofs.Common.{◌≡◌, drop}
use Rattle.causal_curves.specs.Curves.{gain_of}
use Rattle.causal_curves.proofs.steps.gain_of.Given as goal

abbrev pub invariant-loop-i : goal.invariant-loop-i
invariant-loop-i l = l.gain ≡ gain_of (drop l.i l.steps)
