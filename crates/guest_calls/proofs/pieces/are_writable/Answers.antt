use Rattle.std.proofs.Common.{List, sym, ap, ◌∙◌}
use Rattle.std.proofs.lemmas.List.{drop_all}
use Rattle.guest_calls.specs.declared.pieces.Piece.{Piece}
use Rattle.guest_calls.specs.Calls.{filled_parts, is_each_writable}
use Rattle.guest_calls.proofs.Vectors.{writable-accepted, writable-refused}
use Rattle.guest_calls.proofs.pieces.are_writable.Goals as goal

pub loop-piece-preserved : goal.loop-piece-preserved
loop-piece-preserved c =
    writable-accepted c.args.memory.now c.args.pieces.now c.loop-piece.piece-index c.loop-piece.left c.min-count.result c.loop-piece-test.true c.min-count.ensures (sym c.writable.ensures.answer ∙ c.if-not-writable.false)
    ∙ c.loop-piece.invariant

pub returns-then-not-writable : goal.returns-then-not-writable
returns-then-not-writable c =
    writable-refused c.args.memory.now c.args.pieces.now c.loop-piece.piece-index c.loop-piece.left c.min-count.result c.loop-piece-test.true c.min-count.ensures (sym c.writable.ensures.answer ∙ c.if-not-writable.true)
    ∙ c.loop-piece.invariant

pub returns : goal.returns
returns c =
    ap (λ (qs : List Piece). is_each_writable c.args.memory.now (filled_parts qs c.loop-piece.left)) (sym (drop_all c.loop-piece.piece-index c.args.pieces.now c.loop-piece-test.false))
    ∙ c.loop-piece.invariant
