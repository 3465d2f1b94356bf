use Rattle.std.proofs.Common.{ℕ, ◌≡◌, ◌+◌, ◌*◌, ◌++◌, List, [], ◌∷◌, ap, ◌∙◌, arith}
use Rattle.guest_calls.specs.declared.pieces.Piece.{Piece}
use Rattle.guest_calls.specs.Calls.{pieces_at}
use Rattle.guest_calls.proofs.Vectors.{readable-within, pieces-next}
use Rattle.guest_calls.proofs.pieces.pieces_at.Goals as goal

pub piece_at-requires-clause-named : goal.piece_at-requires-clause-named
piece_at-requires-clause-named c =
    readable-within c.args.memory.now c.args.address (16 * c.args.count) (16 * c.loop-i.i) 16 c.requires.named (omega arith)

pub loop-i-preserved : goal.loop-i-preserved
loop-i-preserved c = record {
  items = c.push.ensures.items
      ∙ ap (λ (ps : List Piece). ps ++ c.piece_at.result ∷ []) c.loop-i.invariant.items
      ∙ ap (λ (p : Piece). pieces_at c.args.memory.now c.args.address c.loop-i.i ++ p ∷ []) c.piece_at.ensures
      ∙ pieces-next c.args.memory.now c.args.address c.loop-i.i;
  size = c.push.ensures.len ∙ ap (λ (n : ℕ). n + 1) c.loop-i.invariant.size;
}

pub returns : goal.returns
returns c =
    let end : c.loop-i.i ≡ c.args.count = omega arith in
    c.loop-i.invariant.items ∙ ap (pieces_at c.args.memory.now c.args.address) end
