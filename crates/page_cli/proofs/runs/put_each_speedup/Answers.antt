use Rattle.std.proofs.Common.{sym}
use Rattle.coz_files.proofs.GatheredLemmas.{gathers_nothing}
use Rattle.profile_book.proofs.Gathering.{line_more, lines_whole}
use Rattle.page_cli.specs.Runs.{speedup_at}
use Rattle.page_cli.proofs.runs.put_each_speedup.Goals as goal

pub loop-summary-init : goal.loop-summary-init
loop-summary-init g c = gathers_nothing c.args.out.now c.args.to.now

pub loop-summary-preserved : goal.loop-summary-preserved
loop-summary-preserved g c =
    line_more (speedup_at c.args.label.now) c.args.summaries.now c.loop-summary.summary-index c.summary-item.result c.loop-summary-test.true (sym c.summary-item.is) c.loop-summary.invariant c.put_speedup.ensures

pub returns : goal.returns
returns g c = lines_whole (speedup_at c.args.label.now) c.args.summaries.now c.loop-summary.summary-index c.loop-summary-test.false c.loop-summary.invariant
