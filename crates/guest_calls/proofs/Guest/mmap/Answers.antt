use Rattle.guest_areas.specs.Space.{space}
use Rattle.guest_areas.proofs.Shares.{map-steady}
use Rattle.guest_calls.proofs.Shared.{code_after}
use Rattle.guest_calls.proofs.Guest.mmap.Goals as goal

pub invariant_of-self : goal.invariant_of-self
invariant_of-self c =
    let s = space c.self.inside.areas c.self.inside.memory in
    record {
      few = c.self.invariant.few;
      room = c.self.invariant.room;
      waiting = c.self.invariant.waiting;
      apart = c.self.invariant.apart;
      shared = record {
        regions = c.map-answer.ensures.shared;
        code = code_after c.self.inside.code s _ c.map-answer.new.self c.map-answer.new.memory c.map-answer.ensures.space (map-steady _ _ s) c.self.invariant.shared.code;
      };
    }
