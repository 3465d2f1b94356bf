use Rattle.std.proofs.Common.{length, ◌≡◌, map}
use Rattle.rv_asm.specs.Statements.{items}
use Rattle.asm_tokens.specs.Views.{with_front}
use Rattle.rv_asm.specs.Views.{piece_of, tokens_left}
use Rattle.rv_asm.proofs.Items.{items_behind}
use Rattle.rv_asm.proofs.forms.items.Given as goal

abbrev pub invariant-loop-operands : goal.invariant-loop-operands
invariant-loop-operands l = with_front (map piece_of l.pieces.items) (items_behind l.operands.end l.size (tokens_left l.operands)) ≡ items l.fn.operands.end l.size (tokens_left l.fn.operands)

abbrev pub decreases-loop-operands : goal.decreases-loop-operands
decreases-loop-operands l = length (tokens_left l.operands)
