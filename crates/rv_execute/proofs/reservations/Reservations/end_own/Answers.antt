use Rattle.std.proofs.Common.{arith, refl}
use Rattle.rv_execute.proofs.Kept.{kept-more, kept-all}
use Rattle.rv_execute.proofs.reservations.Reservations.end_own.Goals as goal

pub loop-i-preserved : goal.loop-i-preserved
loop-i-preserved c =
    let low = c.loop-i-test.true in
    let few = c.self.invariant.1 in
    rw c.from-kept.ensures (kept-more (0, 0) _ c.loop-i.invariant (omega arith) refl)

pub invariant_of-self : goal.invariant_of-self
invariant_of-self c = kept-all c.loop-i.invariant c.loop-i.auto.i-end c.loop-i-test.false c.self.invariant.0 c.self.invariant.1
