use Rattle.std.proofs.Common.{◌≡◌, ℕ, ◌+◌, ◌*◌, ◌/◌, List, length, get_or, Option, None, sym, subst, arith}
use Rattle.line_index.specs.declared.endings.Ending.{Ending}
use Rattle.line_index.specs.Endings.{IsBetween, IsLeast}
use Rattle.line_index.proofs.Least.{Reached, one_reached, block_reached}
use Rattle.line_index.proofs.blocks.first_between.Goals as goal

pub loop-at-preserved-then-end-at-ge-BLOCK : goal.loop-at-preserved-then-end-at-ge-BLOCK
loop-at-preserved-then-end-at-ge-BLOCK c =
    let list : List Ending = c.args.lines.now in
    let firsts : List (Option ℕ) = c.args.firsts.now in
    let at : ℕ = c.loop-at.at in
    let block : ℕ = at / 2048 in
    let many : length firsts ≡ length list / 2048 = c.requires.firsts.as_many in
    let here : block * 2048 ≡ at = omega arith in
    let least : IsLeast (IsBetween list at (at + 2048)) (get_or firsts block None) = subst (λ n. IsLeast (IsBetween list n (n + 2048)) (get_or firsts block None)) here (c.requires.firsts.each block (omega (arith, many, c.requires.bound))) in
    subst (Reached list c.args.start c.args.end (at + 2048)) (sym c.earlier-line.ensures)
    (block_reached list c.args.start c.args.end at 2048 c.loop-at.line (get_or firsts block None) (omega arith) least c.loop-at.invariant)

pub loop-at-preserved : goal.loop-at-preserved
loop-at-preserved c =
    subst (Reached c.args.lines.now c.args.start c.args.end (c.loop-at.at + 1)) (sym c.earlier-line-else-at-eq0.ensures)
    (one_reached c.args.lines.now c.args.start c.args.end c.loop-at.at c.loop-at.line _ c.loop-at-test.true c.requires.bound c.loop-at.invariant)
