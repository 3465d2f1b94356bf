use Rattle.std.proofs.Common.{◌<◌, length, arith, subst, ap}
use Rattle.std.proofs.lemmas.List.{length-map, map-append}
use Rattle.guest_futex.specs.Apart.{AreOthers, AreApart}
use Rattle.guest_futex.specs.Held.{waiter_of}
use Rattle.guest_futex.proofs.WaitersLemmas.{others_from_all, apart-with_waiter, length-others}
use Rattle.guest_futex.proofs.queue.Queue.wait.Goals as goal

pub unreachable-requires : goal.unreachable-requires
unreachable-requires c =
    let apart : AreApart c.args.self.now = subst AreApart c.self.view_is c.self.invariant.0 in
    let room : length c.args.self.now < 256 = length-others c.args.hart.0 c.args.self.now c.requires.low (others_from_all c.args.hart.0 c.args.self.now c.requires.apart) apart in
    let same = ap length c.self.view_is in
    let waiters = length-map c.self.inside.waiters.items waiter_of in
    let held = c.self.inside.waiters.ok.0 in
    let many = c.self.invariant.1 in
    let full = c.in_default.ensures.full in
    omega arith

pub invariant_of-self : goal.invariant_of-self
invariant_of-self c =
    let apart : AreApart c.args.self.now = subst AreApart c.self.view_is c.self.invariant.0 in
    let others : AreOthers c.args.hart.0 c.args.self.now = others_from_all c.args.hart.0 c.args.self.now c.requires.apart in
    let waits = apart-with_waiter c.args.address c.args.hart.0 c.args.self.now c.requires.low others apart in
    let many = c.self.invariant.1 in
    let more = c.in-Ok.ensures.capacity in
    (rw (c.in-Ok.ensures.items) (simp map-append (rw c.self.view_is waits)), omega arith)
