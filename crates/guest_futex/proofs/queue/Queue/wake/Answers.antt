use Rattle.std.proofs.Common.{ℕ, ◌≡◌, List, ◌++◌, length, take, drop, arith, subst, ◌∙◌, ap}
use Rattle.std.proofs.Math.Seq.{take-append_seam}
use Rattle.guest_futex.specs.Waiters.{waiters_left}
use Rattle.guest_futex.specs.Apart.{AreApart}
use Rattle.guest_futex.specs.Held.{waiters_of}
use Rattle.guest_futex.proofs.WaitersLemmas.{apart-left}
use Rattle.guest_futex.proofs.queue.Queue.wake.Goals as goal

-- what is written through a slice of a whole vector is the vector's
take-seam : {X : Type 0} (n : ℕ) (xs ys : List X) → length xs ≡ n → take n (xs ++ ys) ≡ xs
take-seam n xs ys is = rw (← is) (take-append_seam xs ys)

pub invariant_of-self : goal.invariant_of-self
invariant_of-self c =
    let many = c.self.invariant.1 in
    let room = c.truncate.ensures.capacity in
    let apart : AreApart c.args.self.now = subst AreApart c.self.view_is c.self.invariant.0 in
    let waiters = c.take_eldest-kept.new.waiters in
    let whole = take-seam c.self.inside.waiters.len waiters (drop (length waiters) c.self.inside.waiters.items) (c.take_eldest-kept.auto.waiters ∙ c.deref_mut.ensures.len) in
    let kept = c.truncate.ensures.items ∙ ap (take c.take_eldest-kept.result) whole in
    let old = ap waiters_of c.deref_mut.ensures.value ∙ c.self.view_is in
    let now = ap waiters_of kept ∙ c.take_eldest-kept.ensures.left ∙ ap (λ ws. waiters_left c.args.address ws c.args.count) old in
    (rw now (apart-left c.args.address c.args.self.now c.args.count apart), omega arith)
