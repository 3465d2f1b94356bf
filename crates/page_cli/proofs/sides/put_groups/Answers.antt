use Rattle.std.proofs.Common.{rules}
use Rattle.page_cli.specs.Page.{lines_text}
use Rattle.page_cli.proofs.Pages.{nothing_yet, one_more, no_more}
use Rattle.page_cli.proofs.sides.put_groups.Goals as goal

pub loop-rest-init : goal.loop-rest-init
loop-rest-init g c = nothing_yet c.args.out.now c.args.to.now (lines_text c.args.most c.args.all.now.points.now c.args.all.now.curves.now) c.args.all.now.curves.now

pub loop-rest-preserved : goal.loop-rest-preserved
loop-rest-preserved g c =
    one_more (lines_text c.args.most c.args.all.now.points.now c.args.all.now.curves.now) c.args.all.now.curves.now c.loop-rest.rest.now c.group_length.result c.split_at.result.0.now c.split_at.result.1.now c.group_length.ensures.group c.split_at.ensures.front
    c.split_at.ensures.back
    c.loop-rest.invariant
    c.put_lines.ensures

pub returns : goal.returns
returns g c = no_more (lines_text c.args.most c.args.all.now.points.now c.args.all.now.curves.now) c.args.all.now.curves.now c.loop-rest.rest.now (search rules) c.loop-rest.invariant
