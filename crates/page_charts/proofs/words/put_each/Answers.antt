use Rattle.std.proofs.Common.{rules}
use Rattle.coz_files.proofs.GatheredLemmas.{gathers_nothing}
use Rattle.profile_book.proofs.Gathering.{line_more, lines_whole}
use Rattle.page_charts.specs.Charts.{item_text}
use Rattle.page_charts.proofs.words.put_each.Goals as goal

pub loop-step-init : goal.loop-step-init
loop-step-init g c = gathers_nothing c.args.out.now c.args.to.now

pub loop-step-preserved : goal.loop-step-preserved
loop-step-preserved g c =
    line_more item_text c.args.steps.now c.loop-step.step-index _ c.loop-step-test.true (search rules) c.loop-step.invariant c.put_item.ensures

pub returns : goal.returns
returns g c = lines_whole item_text c.args.steps.now c.loop-step.step-index c.loop-step-test.false c.loop-step.invariant
