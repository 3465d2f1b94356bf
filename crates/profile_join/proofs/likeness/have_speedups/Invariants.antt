use Rattle.std.proofs.Common.{length}
use Rattle.profile_join.specs.Parts.{speedups_in, AreTimes}
use Rattle.profile_join.proofs.likeness.have_speedups.Given as goal

abbrev pub invariant-loop-rest : goal.invariant-loop-rest
invariant-loop-rest l = record {
  all : AreTimes (speedups_in l.speedups) l.rest → AreTimes (speedups_in l.speedups) l.summaries;
  left : AreTimes (speedups_in l.speedups) l.summaries → AreTimes (speedups_in l.speedups) l.rest;
}

abbrev pub decreases-loop-rest : goal.decreases-loop-rest
decreases-loop-rest l = length l.rest
