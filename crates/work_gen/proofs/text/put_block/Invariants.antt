use Rattle.std.proofs.Common.{◌≡◌, ◌++◌, take, flat_map}
use Rattle.work_gen.specs.Drawn.{piece_text}
use Rattle.work_gen.proofs.text.put_block.Given as goal

abbrev pub invariant-loop-piece : goal.invariant-loop-piece
invariant-loop-piece l = l.text.items ≡ l.fn.text.items ++ flat_map (piece_text l.block l.fn.number) (take l.piece-index l.piece-items)
