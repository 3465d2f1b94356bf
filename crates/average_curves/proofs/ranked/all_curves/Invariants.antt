use Rattle.std.proofs.Common.{◌≡◌, take, ℕ}
use Rattle.std.specs.List.{flat_map, enumerate_from}
use Rattle.coz_types.specs.Labels.{Text}
use Rattle.average_curves.specs.Curves.{curves_at}
use Rattle.average_curves.proofs.ranked.all_curves.Given as goal

abbrev pub invariant-loop-point : goal.invariant-loop-point
invariant-loop-point l = l.curves.items ≡ flat_map (λ (place : ℕ × Text). curves_at l.averaged l.first.summaries place.0) (take l.point (enumerate_from 0 l.first.points))
