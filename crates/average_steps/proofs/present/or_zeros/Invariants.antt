use Rattle.std.proofs.Common.{◌≡◌, take, map}
use Rattle.average_steps.specs.Steps.{or_zero}
use Rattle.average_steps.proofs.present.or_zeros.Given as goal

abbrev pub invariant-loop-value : goal.invariant-loop-value
invariant-loop-value l = l.found.items ≡ map or_zero (take l.value-index l.values)
