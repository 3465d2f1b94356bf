use Rattle.std.proofs.Common.{◌≡◌, ◌+◌, arith}
use Rattle.wide_numbers.specs.Wide.{number}
use Rattle.wide_numbers.proofs.Roots.{root_found, next_is}
use Rattle.wide_numbers.proofs.root.root_of_quotient.Goals as goal

pub returns-clause-root : goal.returns-clause-root
returns-clause-root c =
    let at = c.loop-low.invariant in
    let one : c.loop-low.high ≡ c.loop-low.low + 1 = omega (arith, at.rises, c.loop-low-test.false) in
    root_found c.loop-low.low (number c.args.dividend) c.args.divisor c.requires.some at.in_ (next_is _ _ _ _ one at.next)
