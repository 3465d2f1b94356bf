use Rattle.guest_futex.proofs.Pass.{Passed}
use Rattle.guest_futex.proofs.queue.take_eldest.Given as goal

abbrev pub invariant-loop-i : goal.invariant-loop-i
invariant-loop-i l = Passed l.address l.initial.waiters l.initial.wanted l.initial.into l.i l.kept l.wanted l.waiters l.into
