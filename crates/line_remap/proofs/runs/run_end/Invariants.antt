use Rattle.std.proofs.Common.{◌≡◌, ℕ, ◌-◌, ◌≤◌, ◌<◌, true}
use Rattle.line_index.specs.Index.{has_line}
use Rattle.line_remap.proofs.runs.run_end.Given as goal

abbrev pub invariant-loop-line : goal.invariant-loop-line
invariant-loop-line l = (l.entry ≤ l.end) × ((a : ℕ) → l.entry ≤ a → a < l.end → has_line l.index l.line.0 a ≡ true)

abbrev pub decreases-loop-line : goal.decreases-loop-line
decreases-loop-line l = 0x20_0000_0000 - l.end
