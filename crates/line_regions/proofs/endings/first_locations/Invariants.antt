use Rattle.std.proofs.Common.{ℕ, ◌<◌, ◌≤◌, length}
use Rattle.line_regions.specs.Lines.{HasPathOf}
use Rattle.line_regions.proofs.endings.first_locations.Given as goal

abbrev pub invariant-loop-offset : goal.invariant-loop-offset
invariant-loop-offset l = ((k : ℕ) → k < l.offset → HasPathOf l.locations l.list.items k) × (length l.list.items ≤ l.offset)
