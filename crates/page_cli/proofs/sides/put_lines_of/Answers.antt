use Rattle.std.proofs.Common.{sym}
use Rattle.coz_files.proofs.GatheredLemmas.{gathers_nothing}
use Rattle.profile_book.proofs.Gathering.{line_more, lines_whole}
use Rattle.page_cli.specs.Page.{line_at}
use Rattle.page_cli.proofs.sides.put_lines_of.Goals as goal

pub loop-curve-init : goal.loop-curve-init
loop-curve-init g c = gathers_nothing c.args.out.now c.args.to.now

pub loop-curve-preserved : goal.loop-curve-preserved
loop-curve-preserved g c =
    line_more (line_at c.args.top c.args.all.now.points.now c.args.all.now.curves.now) c.args.group.now c.loop-curve.curve-index c.curve-item.result c.loop-curve-test.true (sym c.curve-item.is) c.loop-curve.invariant c.put_line_at.ensures

pub returns : goal.returns
returns g c = lines_whole (line_at c.args.top c.args.all.now.points.now c.args.all.now.curves.now) c.args.group.now c.loop-curve.curve-index c.loop-curve-test.false c.loop-curve.invariant
