use Rattle.std.proofs.Common.{arith, length}
use Rattle.average_values.proofs.Bounds.{some_scale, scale_fits, squares_small}
use Rattle.average_values.proofs.error.variance_of.Goals as goal

pub invariant_of-result : goal.invariant_of-result
invariant_of-result c =
    let p = c.args.parts in
    let k = length c.args.values.now in
    let two = c.if-values-lt2.false in
    record {
      some = omega (arith, c.scale.ensures, some_scale p k c.requires.some two);
      scale = omega (arith, c.scale.ensures, scale_fits p k c.requires.parts c.requires.few);
      squares = omega (arith, c.scale.ensures, squares_small p k _ c.requires.some two c.spread.ensures.small);
    }
