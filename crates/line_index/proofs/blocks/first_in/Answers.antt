use Rattle.std.proofs.Common.{◌+◌, sym, subst}
use Rattle.line_index.proofs.Least.{Reached, nothing_reached, one_reached, all_reached}
use Rattle.line_index.proofs.blocks.first_in.Goals as goal

pub loop-at-init : goal.loop-at-init
loop-at-init c = nothing_reached c.args.lines.now c.args.start c.args.end

pub loop-at-preserved : goal.loop-at-preserved
loop-at-preserved c =
    subst (Reached c.args.lines.now c.args.start c.args.end (c.loop-at.at + 1)) (sym c.earlier-line.ensures)
    (one_reached c.args.lines.now c.args.start c.args.end c.loop-at.at c.loop-at.line _ c.loop-at-test.true c.requires c.loop-at.invariant)

pub returns : goal.returns
returns c = all_reached c.args.lines.now c.args.start c.args.end c.loop-at.at c.loop-at.line c.loop-at-test.false c.loop-at.invariant
