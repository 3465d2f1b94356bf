use Rattle.std.proofs.Common.{◌≤◌, ◌^◌, length}
use Rattle.line_regions.specs.Lines.{IsFirst}
use Rattle.line_regions.specs.Tree.{IsHeld}
use Rattle.line_regions.proofs.tree.first_within.Given as goal

-- the first line of the nodes from an index on
abbrev pub invariant-loop-end : goal.invariant-loop-end
invariant-loop-end l = IsFirst (2 ^ 32) (IsHeld l.nodes l.wanted l.end (length l.nodes)) l.first × (l.end ≤ length l.nodes)

abbrev pub decreases-loop-end : goal.decreases-loop-end
decreases-loop-end l = l.end
