use Rattle.std.proofs.Common.{◌≡◌, ℕ, ◌+◌, ◌*◌, ◌<◌, List, [], ◌∷◌, length, get_or, Option, None, sym, ap, ◌∙◌, subst, arith}
use Rattle.std.proofs.lemmas.List.{length-append}
use Rattle.line_index.specs.declared.blocks.TheConstants.{BLOCK}
use Rattle.line_index.specs.declared.endings.Ending.{Ending}
use Rattle.line_index.specs.Endings.{IsBetween, IsLeast}
use Rattle.line_index.proofs.Least.{blocks_more}
use Rattle.line_index.proofs.blocks.firsts_of.Goals as goal

pub loop-block-preserved : goal.loop-block-preserved
loop-block-preserved c =
    let list : List Ending = c.args.lines.now in
    let firsts : List (Option ℕ) = c.loop-block.firsts.items in
    let n : ℕ = c.loop-block.block in
    let longer : length c.push.new.self.items ≡ length firsts + 1 = ap length c.in_ok-push.ensures.items ∙ length-append firsts (c.first_in.result ∷ []) in
    record {
      as_many = omega (arith, longer, c.loop-block.invariant.as_many);
      each = subst (λ (more : List (Option ℕ)). (block : ℕ) → block < n + 1 → IsLeast (IsBetween list (block * BLOCK) (block * BLOCK + BLOCK)) (get_or more block None)) (sym c.in_ok-push.ensures.items)
          (blocks_more list firsts n c.first_in.result c.loop-block.invariant.as_many c.loop-block.invariant.each c.first_in.ensures);
    }
