use Rattle.std.proofs.Common.{◌≡◌, ℕ, ◌≤◌, ◌<◌, ◌-◌, false, length, get_or}
use Rattle.page_cli.specs.Lines.{is_newline}
use Rattle.page_cli.proofs.source_lines.first_newline.Given as goal

-- no byte before it is a newline
abbrev pub invariant-loop-place : goal.invariant-loop-place
invariant-loop-place l = (l.place ≤ length l.text) × ((k : ℕ) → k < l.place → is_newline (get_or l.text k 0) ≡ false)

abbrev pub decreases-loop-place : goal.decreases-loop-place
decreases-loop-place l = length l.text - l.place
