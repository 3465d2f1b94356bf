use Rattle.std.proofs.Common.{◌≡◌, ℕ, ◌≤◌, ◌<◌, ◌-◌, true, length, get_or}
use Rattle.timing_reader.specs.Reading.{is_digit}
use Rattle.timing_reader.proofs.digits.digits_length.Given as goal

-- each byte before it is a digit
abbrev pub invariant-loop-offset : goal.invariant-loop-offset
invariant-loop-offset l = (l.offset ≤ length l.text) × ((k : ℕ) → k < l.offset → is_digit (get_or l.text k 0) ≡ true)

abbrev pub decreases-loop-offset : goal.decreases-loop-offset
decreases-loop-offset l = length l.text - l.offset
