use Rattle.std.proofs.Common.{◌≡◌, ℕ, ◌≤◌, ◌<◌, false, length, get_or}
use Rattle.functions_cli.specs.Regions.{is_hyphen}
use Rattle.functions_cli.proofs.regions.behind_last_hyphen.Given as goal

-- no byte from there on is a hyphen
abbrev pub invariant-loop-offset : goal.invariant-loop-offset
invariant-loop-offset l = (l.offset ≤ length l.text) × ((k : ℕ) → l.offset ≤ k → k < length l.text → is_hyphen (get_or l.text k 0) ≡ false)

abbrev pub decreases-loop-offset : goal.decreases-loop-offset
decreases-loop-offset l = l.offset
