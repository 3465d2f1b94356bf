use Rattle.std.proofs.Common.{arith}
use Rattle.average_values.specs.Values.{IsValue, IsSum}
use Rattle.average_steps.proofs.Mended.{all_mended}
use Rattle.average_steps.proofs.present.present.Goals as goal

pub returns-clause-values : goal.returns-clause-values
returns-clause-values c = λ all. all_mended IsValue (record { small = omega arith }) c.args.values.now _ c.in_ok-or_zeros.ensures all

pub returns-clause-sums : goal.returns-clause-sums
returns-clause-sums c = λ all. all_mended IsSum (record { small = omega arith }) c.args.values.now _ c.in_ok-or_zeros.ensures all
