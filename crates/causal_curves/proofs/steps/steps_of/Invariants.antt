use Rattle.std.proofs.Common.{◌≡◌, take, map, option_copied}
use Rattle.causal_curves.specs.Curves.{step_of}
use Rattle.causal_curves.proofs.steps.steps_of.Given as goal

abbrev pub invariant-loop-summary : goal.invariant-loop-summary
invariant-loop-summary l = l.steps.items ≡ map (step_of l.point (option_copied l.base)) (take l.summary-index l.group)
