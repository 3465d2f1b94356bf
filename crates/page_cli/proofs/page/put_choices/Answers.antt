use Rattle.std.proofs.Common.{sym}
use Rattle.coz_files.proofs.GatheredLemmas.{gathers_nothing}
use Rattle.profile_book.proofs.Gathering.{placed_more, placed_whole}
use Rattle.page_cli.specs.Page.{choice_text}
use Rattle.page_cli.proofs.page.put_choices.Goals as goal

pub loop-index-init : goal.loop-index-init
loop-index-init g c = gathers_nothing c.args.out.now c.args.to.now

pub loop-index-preserved : goal.loop-index-preserved
loop-index-preserved g c =
    placed_more (choice_text c.args.tables) c.args.points.now c.loop-index.index c.index-points-index.result c.loop-index-test.true (sym c.index-points-index.is) c.loop-index.invariant c.put_choice.ensures

pub returns : goal.returns
returns g c = placed_whole (choice_text c.args.tables) c.args.points.now c.loop-index.index c.loop-index-test.false c.loop-index.invariant
