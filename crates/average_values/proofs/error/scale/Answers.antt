use Rattle.std.proofs.Common.{arith}
use Rattle.average_values.proofs.Bounds.{scale_fits}
use Rattle.average_values.proofs.error.scale.Goals as goal

pub overflow_mul-result-3 : goal.overflow_mul-result-3
overflow_mul-result-3 c = omega (arith, scale_fits c.args.parts c.args.count c.requires.parts c.requires.count)
