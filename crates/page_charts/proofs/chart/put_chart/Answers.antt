use Rattle.std.proofs.Common.{flat_map, ap}
use Rattle.coz_files.proofs.GatheredLemmas.{gathers_then}
use Rattle.profile_book.proofs.Gathering.{gathers_as}
use Rattle.page_charts.specs.Charts.{place_at, dot_at}
use Rattle.page_charts.proofs.chart.put_chart.Goals as goal

pub returns : goal.returns
returns g c =
    let axes = gathers_then (gathers_then c.push.ensures.gathers c.put_size.ensures) c.push-2.ensures.gathers in
    let places = gathers_as (ap (flat_map (place_at c.args.top)) c.as_slice.ensures) c.put_places.ensures in
    let dots = gathers_as (ap (flat_map (dot_at c.args.top)) c.as_slice-2.ensures) c.put_dots.ensures in
    gathers_then (gathers_then (gathers_then (gathers_then axes places) c.push-3.ensures.gathers) dots) c.push-4.ensures.gathers
