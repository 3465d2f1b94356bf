use Rattle.std.proofs.Common.{◌+◌, length}
use Rattle.line_index.proofs.Merging.{Goes}
use Rattle.line_index.proofs.changes.merged.Given as goal

abbrev pub invariant-loop-address : goal.invariant-loop-address
invariant-loop-address l = Goes l.join l.fn.first l.fn.second l.changes.items l.first.position l.second.position l.first.ahead.now l.second.ahead.now

abbrev pub decreases-loop-address : goal.decreases-loop-address
decreases-loop-address l = length l.first.ahead.now + length l.second.ahead.now
