use Rattle.std.proofs.Common.{refl, arith, below_more}
use Rattle.path_chains.proofs.checked.are_timely.Goals as goal

pub loop-number-preserved : goal.loop-number-preserved
loop-number-preserved c = below_more _ _ c.loop-number.invariant (c.is_timely.ensures.0 c.if-not-is_timely.false)

pub returns : goal.returns
returns c = (λ _ k below. c.loop-number.invariant k (omega arith), λ _. refl)
