use Rattle.std.proofs.Common.{◌≡◌, ℕ, suc, ◌+◌, ◌-◌, ◌<◌, ◌++◌, length, arith, ap, sym, ◌∙◌, append_assoc, length-append}
use Rattle.std.proofs.lemmas.List.Concat.{flat_map-append}
use Rattle.std.specs.Prelude.{codes}
use Rattle.work_gen.specs.Text.{block, blocks, text_of_lines}
use Rattle.work_gen.proofs.BlockTexts.{block_few}
use Rattle.work_gen.proofs.text.put_blocks.Goals as goal

one_left : (i size state after : ℕ) → i < size → after ≡ (block i state).1 → blocks i (size - i) state ≡ (block i state).0 ++ blocks (i + 1) (size - (i + 1)) after
one_left i size state after less e =
    let left : size - i ≡ suc (size - (i + 1)) = omega arith in
    ap (λ k. blocks i k state) left ∙ ap (λ t. (block i state).0 ++ blocks (i + 1) (size - (i + 1)) t) (sym e)

pub overflow_add-lines : goal.overflow_add-lines
overflow_add-lines c =
    omega (arith, c.loop-i.invariant.0, c.drawn_block-block.ensures.lines c.loop-i.i, block_few c.loop-i.i c.loop-i.state, c.loop-i-test.true, c.requires)

pub loop-i-preserved : goal.loop-i-preserved
loop-i-preserved c =
    let drawn = c.drawn_block-block.ensures in
    let i = c.loop-i.i in
    let this = (block i c.loop-i.state).0 in
    let rest = blocks (i + 1) (c.args.size - (i + 1)) c.drawn_block-block.result.after in
    let left = one_left i c.args.size c.loop-i.state _ c.loop-i-test.true (drawn.after i) in (
      omega (arith, c.loop-i.invariant.0, drawn.lines i, block_few i c.loop-i.state),
      omega (arith, c.loop-i.invariant.1, drawn.lines i, length-append this rest, ap length left),
      ap (λ t. t ++ text_of_lines rest) (c.in_ok-put_block.ensures ∙ ap (λ t. c.loop-i.text.items ++ t) (drawn.text i))
          ∙ append_assoc c.loop-i.text.items (text_of_lines this) (text_of_lines rest)
          ∙ ap (λ t. c.loop-i.text.items ++ t) (sym (ap text_of_lines left ∙ flat_map-append (λ line. line ++ codes "\n") this rest))
          ∙ c.loop-i.invariant.2,
    )
