use Rattle.std.proofs.Common.{◌≡◌, ℕ, ◌≤◌, ◌<◌, ◌-◌, false, length, get_or}
use Rattle.experiment_plan.specs.Lists.{is_comma}
use Rattle.experiment_plan.proofs.line.first_comma.Given as goal

-- no byte before it is a comma
abbrev pub invariant-loop-offset : goal.invariant-loop-offset
invariant-loop-offset l = (l.offset ≤ length l.text) × ((k : ℕ) → k < l.offset → is_comma (get_or l.text k 0) ≡ false)

abbrev pub decreases-loop-offset : goal.decreases-loop-offset
decreases-loop-offset l = length l.text - l.offset
