use Rattle.std.proofs.Common.{◌<◌, length, arith, subst, sym}
use Rattle.guest_pipes.specs.declared.waiters.PipeWaiter.{PipeWaiter}
use Rattle.guest_pipes.specs.Pipes.{PipeMap}
use Rattle.guest_pipes.specs.Kept.{AreOthers}
use Rattle.guest_pipes.proofs.WaitersLemmas.{others_from_all, apart-append, length-others}
use Rattle.guest_pipes.proofs.Pipes.wait.Goals as goal

pub unreachable-requires : goal.unreachable-requires
unreachable-requires c =
    let more : PipeWaiter = record { at = c.this_end-at.result; hart = c.args.hart } in
    let others : AreOthers c.args.hart.0 c.self.inside.waiters.items = subst (λ (p : PipeMap). AreOthers c.args.hart.0 p.waiters) (sym c.self.view_is) (others_from_all c.args.hart.0 c.args.self.now.waiters c.requires.apart) in
    let few : length c.self.inside.waiters.items < 256 = length-others more c.self.inside.waiters.items c.requires.low others c.self.invariant.apart in
    let held = c.self.inside.waiters.ok.0 in
    let many = c.self.invariant.room in
    let full = c.in_default.ensures.full in
    omega arith

pub invariant_of-self : goal.invariant_of-self
invariant_of-self c =
    let more : PipeWaiter = record { at = c.this_end-at.result; hart = c.args.hart } in
    let others : AreOthers c.args.hart.0 c.self.inside.waiters.items = subst (λ (p : PipeMap). AreOthers c.args.hart.0 p.waiters) (sym c.self.view_is) (others_from_all c.args.hart.0 c.args.self.now.waiters c.requires.apart) in
    record {
      numbers = c.self.invariant.numbers;
      slots = c.self.invariant.slots;
      pipes = c.self.invariant.pipes;
      apart = rw c.in-Ok.ensures.items (apart-append c.self.inside.waiters.items more c.self.invariant.apart c.requires.low others);
      room = let many = c.self.invariant.room in let grown = c.in-Ok.ensures.capacity in omega arith;
    }
