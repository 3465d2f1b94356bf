use Rattle.std.proofs.Common.{◌∙◌, length-set, length-take, length-append, length-drop, arith, None}
use Rattle.std.proofs.lemmas.List.Elements.{All-set}
use Rattle.guest_pipes.specs.declared.ends.PipeEnd.TheVariants.{Reading, Writing}
use Rattle.guest_pipes.specs.Pipes.{end_of, left_at}
use Rattle.guest_pipes.specs.Kept.{IsSlot}
use Rattle.guest_pipes.proofs.WaitersLemmas.{apart-left}
use Rattle.guest_pipes.proofs.Pipes.close.Goals as goal

pub invariant_of-self : goal.invariant_of-self
invariant_of-self c = record {
  numbers = length-set _ _ _ ∙ c.self.invariant.numbers;
  slots = All-set IsSlot c.self.inside.ends _ None tt c.self.invariant.slots;
  pipes =
      let kept = c.empty_unused.auto.held in
      let there = c.deref_mut.ensures.len in
      let all = c.self.inside.held.ok.0 in
      let many = c.self.invariant.pipes in
      simp (length-take, length-append, length-drop) (omega arith);
  apart =
      rw c.take_both.ensures.left
      (apart-left (end_of c.this_end-pipe.result.pipe Writing) (left_at (end_of c.this_end-pipe.result.pipe Reading) c.self.inside.waiters.items) (apart-left (end_of c.this_end-pipe.result.pipe Reading) c.self.inside.waiters.items c.self.invariant.apart));
  room = let same = c.take_both.ensures.room in let many = c.self.invariant.room in omega arith;
}
