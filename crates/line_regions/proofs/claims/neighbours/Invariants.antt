use Rattle.std.proofs.Common.{◌≡◌, ℕ, ◌<◌, ◌+◌, length, get_or}
use Rattle.line_regions.proofs.claims.neighbours.Given as goal

abbrev pub invariant-loop-line : goal.invariant-loop-line
invariant-loop-line l = (length l.next.items ≡ l.count) × ((k : ℕ) → k < l.line → get_or l.next.items k 0 ≡ k + 1)
