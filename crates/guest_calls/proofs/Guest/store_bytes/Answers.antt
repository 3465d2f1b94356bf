use Rattle.std.proofs.Common.{take}
use Rattle.guest_pipes.specs.Pipes.{held}
use Rattle.guest_calls.proofs.Rows.{shares-stored}
use Rattle.guest_calls.proofs.Guest.store_bytes.Goals as goal

pub invariant_of-self-2 : goal.invariant_of-self-2
invariant_of-self-2 c = record {
  few = c.self.invariant.few;
  room = c.self.invariant.room;
  waiting = c.self.invariant.waiting;
  apart = c.self.invariant.apart;
  shared = shares-stored _ _ _ c.args.address (take c.args.count (held c.args.number c.self.inside.pipes)) c.self.invariant.shared (c.in_ok-deliver.ensures.1);
}
