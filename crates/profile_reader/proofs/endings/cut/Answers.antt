use Rattle.std.proofs.Common.{rules}
use Rattle.profile_reader.proofs.Colons.{cut_range, one_part}
use Rattle.profile_reader.proofs.endings.cut.Goals as goal

pub returns-then-text-i-eq58 : goal.returns-then-text-i-eq58
returns-then-text-i-eq58 c = cut_range _ _ (search rules) (search rules) c.loop-i.invariant

pub returns : goal.returns
returns c = one_part _ (λ k lt. c.loop-i.invariant k (search rules))
