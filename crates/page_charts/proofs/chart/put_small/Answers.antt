use Rattle.std.proofs.Common.{flat_map, ap}
use Rattle.coz_files.proofs.GatheredLemmas.{gathers_then}
use Rattle.profile_book.proofs.Gathering.{gathers_as}
use Rattle.page_charts.specs.Charts.{place_at}
use Rattle.page_charts.proofs.chart.put_small.Goals as goal

pub returns : goal.returns
returns g c =
    let places = gathers_as (ap (flat_map (place_at c.args.top)) c.as_slice.ensures) c.put_places.ensures in
    gathers_then (gathers_then c.push.ensures.gathers places) c.push-2.ensures.gathers
