use Rattle.std.proofs.Common.{arith}
use Rattle.wide_numbers.specs.Wide.{number}
use Rattle.average_values.proofs.Bounds.{sum_small}
use Rattle.average_values.proofs.error.error_of.Goals as goal

pub root_of_quotient-requires-clause-small : goal.root_of_quotient-requires-clause-small
root_of_quotient-requires-clause-small c =
    let a = c.variance in
    let b = c.base in
    sum_small (number a.inside.squares) (number b.inside.squares) a.inside.scale b.inside.scale _ a.invariant.some b.invariant.some a.invariant.squares b.invariant.squares (omega (arith, c.plus.ensures, c.times-mine.ensures, c.times-others.ensures))
