use Rattle.std.proofs.Common.{◌≡◌, map}
use Rattle.std.specs.Vec.Iter.{into_iter_items}
use Rattle.rv_asm.specs.Assembled.{with_pieces}
use Rattle.rv_asm.specs.Views.{piece_of, state_of}
use Rattle.rv_asm.proofs.state.State.put_all.Given as goal

abbrev pub invariant-loop-piece : goal.invariant-loop-piece
invariant-loop-piece l = with_pieces l.line l.column (map piece_of (into_iter_items l.piece-iterator)) (state_of l.self) ≡ with_pieces l.line l.column (map piece_of l.fn.pieces.items) (state_of l.fn.self)
