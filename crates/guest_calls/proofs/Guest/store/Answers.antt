use Rattle.guest_calls.proofs.Rows.{shares-stored}
use Rattle.guest_calls.proofs.Guest.store.Goals as goal

pub invariant_of-self-2 : goal.invariant_of-self-2
invariant_of-self-2 c = record {
  few = c.self.invariant.few;
  room = c.self.invariant.room;
  waiting = c.self.invariant.waiting;
  apart = c.self.invariant.apart;
  shared = shares-stored _ _ _ c.args.address c.args.bytes.now c.self.invariant.shared (c.in_ok-copy_in.ensures.1);
}
