use Rattle.std.proofs.Common.{inl, inr, arith}
use Rattle.guest_futex.proofs.Pass.{passed-taken, passed-kept, passed-room, passed-left}
use Rattle.guest_futex.proofs.queue.take_eldest.Goals as goal
use Rattle.guest_futex.proofs.queue.take_eldest.Goals.{then-wanted-gt0+then-waiting-address, else-wanted-gt0, else-wanted-gt0-via-then-wanted-gt0+else-waiting-address, else-wanted-gt0-via-else-wanted-gt0}

pub push-requires : goal.push-requires
push-requires c = passed-room _ c.loop-i.invariant c.requires.room c.loop-i-test.true c.if-wanted-gt0.true c.if-waiting-address.true

pub loop-i-preserved : goal.loop-i-preserved
loop-i-preserved c = elim c.if-wanted-gt0.branch [
  | then-wanted-gt0+then-waiting-address w ↦
      rw (w.waiters-is, w.into-is, w.wanted-is, w.kept-is, w.push.ensures)
      (passed-taken _ c.loop-i.invariant c.loop-i-test.true w.if-wanted-gt0.true w.if-waiting-address.true)
  | else-wanted-gt0 w ↦
      rw (w.waiters-is, w.into-is, w.wanted-is, w.kept-is)
      (passed-kept _ c.loop-i.invariant c.loop-i-test.true
      (elim w.else-wanted-gt0.branch [
        | else-wanted-gt0-via-then-wanted-gt0+else-waiting-address w' ↦ inr w'.if-waiting-address.false
        | else-wanted-gt0-via-else-wanted-gt0 w' ↦ inl (omega arith)
      ]))
]

pub returns-clause-left : goal.returns-clause-left
returns-clause-left c = passed-left c.loop-i.invariant c.requires.apart c.loop-i-test.false
