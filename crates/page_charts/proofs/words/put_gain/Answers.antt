use Rattle.std.proofs.Common.{ap}
use Rattle.coz_files.proofs.GatheredLemmas.{gathers_then}
use Rattle.profile_book.proofs.Gathering.{gathers_as}
use Rattle.page_charts.specs.Charts.{flat_text, rough_text}
use Rattle.page_charts.proofs.words.put_gain.Goals as goal

pub returns : goal.returns
returns g c =
    let flat = gathers_as (ap flat_text c.flat_from.ensures) c.put_flat.ensures in
    let rough = gathers_as (ap rough_text c.is_rough.ensures) c.put_rough.ensures in
    gathers_then (gathers_then c.put_value.ensures flat) rough
