use Rattle.std.proofs.Common.{take}
use Rattle.run_summary.proofs.Counting.{AreCounts}
use Rattle.run_summary.proofs.counts.counts_of_visits.Given as goal

abbrev pub invariant-loop-visit : goal.invariant-loop-visit
invariant-loop-visit l = AreCounts l.points (take l.visit-index l.visits) l.counts.items
