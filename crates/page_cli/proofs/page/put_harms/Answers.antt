use Rattle.std.proofs.Common.{rules}
use Rattle.page_cli.specs.Page.{harm_text, view_of}
use Rattle.page_cli.proofs.Pages.{nothing_yet, one_more, no_more}
use Rattle.page_cli.proofs.page.put_harms.Goals as goal

pub loop-rest-init : goal.loop-rest-init
loop-rest-init g c = nothing_yet c.args.out.now c.args.to.now (harm_text (view_of c.args.view.now) c.args.profile.now) c.args.curves.now

pub loop-rest-preserved : goal.loop-rest-preserved
loop-rest-preserved g c =
    one_more (harm_text (view_of c.args.view.now) c.args.profile.now) c.args.curves.now c.loop-rest.rest.now c.group_length.result c.split_at.result.0.now c.split_at.result.1.now c.group_length.ensures.group c.split_at.ensures.front
    c.split_at.ensures.back
    c.loop-rest.invariant
    c.put_harm.ensures

pub returns : goal.returns
returns g c = no_more (harm_text (view_of c.args.view.now) c.args.profile.now) c.args.curves.now c.loop-rest.rest.now (search rules) c.loop-rest.invariant
