use Rattle.std.proofs.Common.{◌≡◌, take}
use Rattle.std.specs.List.{flat_map, enumerate_from}
use Rattle.causal_curves.proofs.Ranks.{curves_to}
use Rattle.causal_curves.proofs.ranked.all_curves.Given as goal

abbrev pub invariant-loop-point : goal.invariant-loop-point
invariant-loop-point l = l.curves.items ≡ flat_map (curves_to l.profile.summaries) (take l.point (enumerate_from 0 l.profile.points))
