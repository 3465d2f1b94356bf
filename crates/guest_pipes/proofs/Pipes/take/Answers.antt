use Rattle.std.proofs.Common.{◌∙◌, length-set, arith}
use Rattle.guest_pipes.specs.declared.ends.PipeEnd.TheVariants.{Writing}
use Rattle.guest_pipes.specs.Pipes.{end_of}
use Rattle.guest_pipes.proofs.WaitersLemmas.{apart-left}
use Rattle.guest_pipes.proofs.Pipes.take.Goals as goal

pub invariant_of-self : goal.invariant_of-self
invariant_of-self c = record {
  numbers = c.self.invariant.numbers;
  slots = c.self.invariant.slots;
  pipes = length-set _ _ _ ∙ c.self.invariant.pipes;
  apart = rw c.take_waiters.ensures.left (apart-left (end_of c.this_end-pipe.result.pipe Writing) c.self.inside.waiters.items c.self.invariant.apart);
  room = let same = c.take_waiters.ensures.room in let many = c.self.invariant.room in omega arith;
}
