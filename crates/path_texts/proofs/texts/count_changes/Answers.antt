use Rattle.std.proofs.Common.{rules, ap, arith, length}
use Rattle.path_texts.proofs.PathSegments.{begins, count_last}
use Rattle.path_texts.proofs.texts.count_changes.Goals as goal

pub loop-number-init : goal.loop-number-init
loop-number-init c =
    let same = ap length (begins c.args.events.now c.args.chain.now c.in-Some.rest.now c.in-Some.first.now c.first_segment-segment.result (search rules) (search rules)) in
    (omega (arith, same), omega arith)

pub returns : goal.returns
returns c = count_last c.args.events.now c.in-Some.rest.now c.loop-number.number-index c.loop-number.segment c.loop-number.count _ (search rules) c.loop-number.invariant.0
