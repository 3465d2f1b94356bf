use Rattle.std.proofs.Common.{lit≤}
use Rattle.guest_calls.proofs.Rows.{readable-part}
use Rattle.guest_calls.proofs.Vectors.{readable-within}
use Rattle.guest_calls.proofs.times.span_at.Goals as goal

pub number-requires : goal.number-requires
number-requires c = readable-part c.args.memory.now c.args.address 16 8 c.requires.named (lit≤ tt)

pub number-requires-2 : goal.number-requires-2
number-requires-2 c = readable-within c.args.memory.now c.args.address 16 8 8 c.requires.named (lit≤ tt)
