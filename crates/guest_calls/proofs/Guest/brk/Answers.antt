use Rattle.guest_areas.specs.Space.{space}
use Rattle.guest_areas.proofs.Shares.{with_break-steady}
use Rattle.guest_calls.proofs.Shared.{code_after}
use Rattle.guest_calls.proofs.Guest.brk.Goals as goal

pub invariant_of-self : goal.invariant_of-self
invariant_of-self c =
    let s = space c.self.inside.areas c.self.inside.memory in
    record {
      few = c.self.invariant.few;
      room = c.self.invariant.room;
      waiting = c.self.invariant.waiting;
      apart = c.self.invariant.apart;
      shared = record {
        regions = c.brk-end.ensures.shared;
        code = code_after c.self.inside.code s _ c.brk-end.new.self c.brk-end.new.memory c.brk-end.ensures.space (with_break-steady _ s) c.self.invariant.shared.code;
      };
    }
