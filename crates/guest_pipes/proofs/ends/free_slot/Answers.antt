use Rattle.std.proofs.Common.{arith, rules}
use Rattle.guest_pipes.proofs.FreeSlots.{free_slot-is}
use Rattle.guest_pipes.proofs.ends.free_slot.Goals as goal

pub returns-then-is_none-clause-answer : goal.returns-then-is_none-clause-answer
returns-then-is_none-clause-answer c = free_slot-is c.args.ends.now c.loop-slot.slot (omega arith) c.loop-slot.invariant (λ below. search rules)

pub returns-clause-answer : goal.returns-clause-answer
returns-clause-answer c =
    free_slot-is c.args.ends.now _ (omega arith) (λ k below. c.loop-slot.invariant k (omega arith)) (λ below. absurd (omega arith))
