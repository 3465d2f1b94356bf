use Rattle.guest_areas.specs.Space.{space}
use Rattle.guest_areas.proofs.Shares.{unmap-steady}
use Rattle.guest_calls.proofs.Shared.{code_after}
use Rattle.guest_calls.proofs.Guest.munmap.Goals as goal

pub invariant_of-self : goal.invariant_of-self
invariant_of-self c =
    let s = space c.self.inside.areas c.self.inside.memory in
    record {
      few = c.self.invariant.few;
      room = c.self.invariant.room;
      waiting = c.self.invariant.waiting;
      apart = c.self.invariant.apart;
      shared = record {
        regions = c.unmap-answer.ensures.shared;
        code = code_after c.self.inside.code s _ c.unmap-answer.new.self c.unmap-answer.new.memory c.unmap-answer.ensures.space (unmap-steady _ _ s) c.self.invariant.shared.code;
      };
    }
