use Rattle.std.proofs.Common.{rules, append_assoc}
use Rattle.profile_join.proofs.Joined.{count_next, numbered_next}
use Rattle.profile_join.proofs.joining.numbered.Goals as goal

pub loop-part-preserved : goal.loop-part-preserved
loop-part-preserved c = record {
  numbered = numbered_next c.loop-part.yielded c.in-Some.part c.loop-part.numbered.items c.push.new.self.items c.loop-part.number (search rules) c.loop-part.invariant.numbered c.loop-part.invariant.number;
  number = count_next c.loop-part.yielded c.in-Some.part c.loop-part.number c.loop-part.invariant.number;
  parts = search (rules, append_assoc);
}
