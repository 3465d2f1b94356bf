use Rattle.std.proofs.Common.{length, arith, ap}
use Rattle.guest_calls.proofs.Guest.copy_from.Goals as goal

pub unreachable-requires : goal.unreachable-requires
unreachable-requires c =
    let few = c.other.invariant.few in
    let given = ap length c.deref.ensures.value in
    let room = c.self.invariant.room in
    let kept = c.clear.ensures.capacity in
    let none = c.clear.ensures.len in
    let full = c.in_default.ensures.full in
    omega arith
