use Rattle.std.proofs.Common.{◌≡◌, ℕ, ◌≤◌, ◌<◌, ◌-◌, false, length, get_or}
use Rattle.gain_words.specs.Costs.{is_equals}
use Rattle.gain_words.proofs.cut.first_equals.Given as goal

-- no byte before it is `=`
abbrev pub invariant-loop-offset : goal.invariant-loop-offset
invariant-loop-offset l = (l.offset ≤ length l.text) × ((k : ℕ) → k < l.offset → is_equals (get_or l.text k 0) ≡ false)

abbrev pub decreases-loop-offset : goal.decreases-loop-offset
decreases-loop-offset l = length l.text - l.offset
