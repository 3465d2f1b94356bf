use Rattle.std.proofs.lemmas.Int.{to_z-of_z}
use Rattle.average_values.proofs.Bounds.{deviation_small}
use Rattle.average_values.proofs.spread.deviation.Goals as goal

pub returns-clause-small : goal.returns-clause-small
returns-clause-small c =
    let sum_fits = c.ranges.sum in
    let value_fits = c.ranges.value in
    deviation_small c.args.count c.args.sum c.args.value _ c.requires.sum c.requires.value.small (simp to_z-of_z at c.distance.ensures)
