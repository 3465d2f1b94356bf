use Rattle.std.proofs.Common.{◌≡◌, ℕ, ◌≤◌, ◌<◌, false, length, get_or}
use Rattle.experiment_plan.specs.Lists.{is_colon}
use Rattle.experiment_plan.proofs.line.behind_last_colon.Given as goal

-- no byte from there on is a colon
abbrev pub invariant-loop-offset : goal.invariant-loop-offset
invariant-loop-offset l = (l.offset ≤ length l.text) × ((k : ℕ) → l.offset ≤ k → k < length l.text → is_colon (get_or l.text k 0) ≡ false)

abbrev pub decreases-loop-offset : goal.decreases-loop-offset
decreases-loop-offset l = l.offset
