-- A block as the code draws it.
use Rattle.std.specs.Prelude.{◌≡◌, ℕ, List, length, flat_map, decimal}
use Rattle.work_gen.specs.declared.kinds.Block.{Block}
use Rattle.work_gen.specs.declared.kinds.Piece.{Piece}
use Rattle.work_gen.specs.declared.kinds.Piece.TheVariants as pieces
use Rattle.work_gen.specs.Text.{text_of_lines, block}

-- a piece of block i, its hole filled
abbrev pub piece_text : Block → ℕ → Piece → List ℕ
piece_text block i (pieces.Text text) = text.now
piece_text block i pieces.Work = block.kind.now.work.now
piece_text block i pieces.Turns = decimal block.turns
piece_text block i pieces.Number = decimal i

-- as block i
abbrev pub block_text : Block → ℕ → List ℕ
block_text block i = flat_map (piece_text block i) block.kind.now.pieces.now

-- it is the block that the draws from this state make
pub record IsDrawn (state : ℕ) (drawn : Block) : Type 0 where
  pub text : (i : ℕ) → block_text drawn i ≡ text_of_lines (block i state).0
  pub lines : (i : ℕ) → drawn.kind.now.lines ≡ length (block i state).0
  pub after : (i : ℕ) → drawn.after ≡ (block i state).1
