use Rattle.std.proofs.Common.{ap, ◌∙◌, arith, ◌++◌, ◌+◌, ◌-◌, ◌/◌}
use Rattle.byte_write.specs.Numbers.{groups}
use Rattle.byte_write.proofs.Groups.{over_group}
use Rattle.byte_write.proofs.leb.push_groups.Goals as goal

pub loop-preserved : goal.loop-preserved
loop-preserved c = (
  omega (arith, c.loop-test.true),
  ap (λ xs. xs ++ groups (c.args.count - (c.loop.counter + 1) + 1) (c.loop.left / 128)) c.in_ok-push.ensures.items
      ∙ over_group c.loop.out.items c.args.count c.loop.counter c.loop.left _ (omega (arith, c.loop-test.true)) c.loop.invariant.1,
)
