use Rattle.std.proofs.Common.{◌≡◌, ◌≤◌, ◌++◌, length, reverse}
use Rattle.hart_handovers.specs.Path.{back}
use Rattle.hart_handovers.proofs.path.path_back.Given as goal

-- the path to the carrier and then the segments so far, the last first, are the whole path
abbrev pub invariant-loop-left : goal.invariant-loop-left
invariant-loop-left l =
    (l.left ≤ length l.handovers)
    × (back l.handovers l.fn.hart.0 l.fn.end (length l.handovers)
    ≡ back l.handovers l.carrier.0 l.to l.left ++ reverse l.path.items)

abbrev pub decreases-loop-left : goal.decreases-loop-left
decreases-loop-left l = l.left
