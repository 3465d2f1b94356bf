use Rattle.std.proofs.Common.{rules}
use Rattle.wide_numbers.proofs.Roots.{product_fits}
use Rattle.wide_numbers.proofs.root.is_in.Goals as goal

pub times-requires-2 : goal.times-requires-2
times-requires-2 c = product_fits _ c.args.divisor c.args.candidate c.requires.small c.requires.divisor (search rules)
