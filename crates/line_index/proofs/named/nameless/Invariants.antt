use Rattle.std.proofs.Common.{◌≤◌, ◌-◌, length}
use Rattle.line_index.proofs.named.nameless.Given as goal

abbrev pub invariant-loop-files : goal.invariant-loop-files
invariant-loop-files l = length l.files.items ≤ l.count

abbrev pub decreases-loop-files : goal.decreases-loop-files
decreases-loop-files l = l.count - length l.files.items
