use Rattle.std.proofs.Common.{◌≡◌, ℕ, ◌+◌, ◌<◌, length, get_or}
use Rattle.std.specs.Prelude.{All}
use Rattle.line_regions.specs.declared.tree.Point.{Point}
use Rattle.line_regions.specs.Lines.{HasRank, IsPointOf}
use Rattle.line_regions.proofs.points.points_of.Given as goal

-- the points so far, and the rank of the last path
abbrev pub invariant-loop-offset : goal.invariant-loop-offset
invariant-loop-offset l =
    (length l.points.items ≡ l.offset)
    × All (IsPointOf l.locations l.heads) l.points.items
    × ((k : ℕ) (d : Point) → k < length l.points.items → (get_or l.points.items k d).line ≡ k)
    × ((k : ℕ) → k + 1 ≡ l.offset → HasRank l.locations l.heads k l.rank)
