use Rattle.std.proofs.Common.{arith}
use Rattle.zero_bytes.proofs.Flat.{zeros-flat, zeros-pieces}
use Rattle.zero_bytes.proofs.Bytes.new.Goals as goal

pub returns : goal.returns
returns c = zeros-flat c.loop.pieces.items c.loop.counter c.args.count c.loop.invariant

pub invariant_of-result : goal.invariant_of-result
invariant_of-result c = zeros-pieces c.loop.pieces.items c.loop.counter c.args.count c.loop.invariant (omega arith)
