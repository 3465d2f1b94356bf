use Rattle.std.proofs.Common.{length, arith, ap}
use Rattle.std.proofs.lemmas.List.{length-map}
use Rattle.guest_futex.specs.Held.{waiter_of}
use Rattle.guest_futex.proofs.WaitersLemmas.{length-apart}
use Rattle.guest_futex.proofs.queue.Queue.copy_from.Goals as goal

pub unreachable-requires : goal.unreachable-requires
unreachable-requires c =
    let few = length-apart _ c.other.invariant.0 in
    let waiters = length-map c.other.inside.waiters.items waiter_of in
    let given = ap length c.deref.ensures.value in
    let many = c.self.invariant.1 in
    let room = c.clear.ensures.capacity in
    let none = c.clear.ensures.len in
    let full = c.in_default.ensures.full in
    omega arith
