use Rattle.std.proofs.Common.{rules}
use Rattle.average_curves.proofs.Ranks.{no_more}
use Rattle.average_curves.proofs.ranked.push_curves.Goals as goal

pub returns : goal.returns
returns c = no_more c.args.averaged.now _ _ c.args.point c.loop-rest.start c.loop-rest.rest.now (search rules) c.loop-rest.invariant.so_far
