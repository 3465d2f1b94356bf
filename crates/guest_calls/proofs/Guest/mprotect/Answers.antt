use Rattle.guest_areas.specs.Space.{space}
use Rattle.guest_areas.proofs.Shares.{protect-steady}
use Rattle.guest_calls.proofs.Shared.{code_after}
use Rattle.guest_calls.proofs.Guest.mprotect.Goals as goal

pub invariant_of-self : goal.invariant_of-self
invariant_of-self c =
    let s = space c.self.inside.areas c.self.inside.memory in
    record {
      few = c.self.invariant.few;
      room = c.self.invariant.room;
      waiting = c.self.invariant.waiting;
      apart = c.self.invariant.apart;
      shared = record {
        regions = c.protect-answer.ensures.shared;
        code = code_after c.self.inside.code s _ c.protect-answer.new.self c.protect-answer.new.memory c.protect-answer.ensures.space (protect-steady _ _ _ s) c.self.invariant.shared.code;
      };
    }
