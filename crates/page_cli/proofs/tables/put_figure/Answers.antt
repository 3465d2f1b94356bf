use Rattle.std.proofs.Common.{ap}
use Rattle.coz_files.proofs.GatheredLemmas.{gathers_then}
use Rattle.profile_book.proofs.Gathering.{gathers_as}
use Rattle.page_charts.specs.Charts.{items_text}
use Rattle.page_cli.proofs.tables.put_figure.Goals as goal

pub returns : goal.returns
returns g c =
    let items = gathers_as (ap items_text c.as_slice.ensures) c.put_items.ensures in
    gathers_then (gathers_then (gathers_then c.put_caption.ensures c.put_chart.ensures) items) c.push.ensures.gathers
