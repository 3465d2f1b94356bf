use Rattle.std.proofs.Common.{◌≡◌, ℕ, ◌-◌, ◌<◌, ◌≤◌, length}
use Rattle.path_chains.specs.Path.{event_at}
use Rattle.path_texts.proofs.texts.are_of_first.Given as goal

-- the events so far are of the first hart
abbrev pub invariant-loop-number : goal.invariant-loop-number
invariant-loop-number l = (l.number ≤ length l.events) × ((k : ℕ) → k < l.number → (event_at l.events k).hart.0 ≡ 0)

abbrev pub decreases-loop-number : goal.decreases-loop-number
decreases-loop-number l = length l.events - l.number
