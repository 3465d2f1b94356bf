use Rattle.std.proofs.Common.{rules}
use Rattle.profile_join.specs.Parts.{speedups_in}
use Rattle.profile_join.proofs.Loops.{times_more, times_left, no_times}
use Rattle.profile_join.proofs.likeness.have_speedups.Goals as goal

pub loop-rest-preserved : goal.loop-rest-preserved
loop-rest-preserved c = record {
  all = λ more. c.loop-rest.invariant.all (times_more (speedups_in c.args.speedups.now) c.group_length.result c.loop-rest.rest.now c.split_at.result.0.now c.split_at.result.1.now c.group_length.ensures.group c.split_at.ensures.front c.split_at.ensures.back (c.same_speedups.ensures.same (search rules)) more);
  left = λ all. times_left (speedups_in c.args.speedups.now) c.group_length.result c.loop-rest.rest.now c.split_at.result.1.now c.group_length.ensures.group c.split_at.ensures.back (c.loop-rest.invariant.left all);
}

pub returns-clause-same : goal.returns-clause-same
returns-clause-same c true_is = c.loop-rest.invariant.all (no_times (speedups_in c.args.speedups.now) c.loop-rest.rest.now (search rules))
