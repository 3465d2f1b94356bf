use Rattle.std.proofs.Common.{sym}
use Rattle.coz_files.proofs.GatheredLemmas.{gathers_nothing}
use Rattle.profile_book.proofs.Gathering.{line_more, lines_whole}
use Rattle.coz_files.specs.InMemory.{entries}
use Rattle.page_values.specs.Sources.{look_up}
use Rattle.page_cli.specs.Page.{row_text}
use Rattle.page_cli.proofs.tables.put_rows.Goals as goal

pub loop-curve-init : goal.loop-curve-init
loop-curve-init g c = gathers_nothing c.args.out.now c.args.to.now

pub loop-curve-preserved : goal.loop-curve-preserved
loop-curve-preserved g c =
    line_more (row_text c.args.top (look_up (entries c.args.view.now.sources.now)) c.args.summaries.now) c.args.curves.now c.loop-curve.curve-index c.curve-item.result c.loop-curve-test.true (sym c.curve-item.is) c.loop-curve.invariant c.put_row.ensures

pub returns : goal.returns
returns g c = lines_whole (row_text c.args.top (look_up (entries c.args.view.now.sources.now)) c.args.summaries.now) c.args.curves.now c.loop-curve.curve-index c.loop-curve-test.false c.loop-curve.invariant
