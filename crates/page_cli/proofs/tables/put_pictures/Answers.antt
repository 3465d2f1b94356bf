use Rattle.std.proofs.Common.{flat_map, ap}
use Rattle.coz_files.proofs.GatheredLemmas.{gathers_then}
use Rattle.profile_book.proofs.Gathering.{gathers_as}
use Rattle.page_cli.specs.Page.{figure_at, values_text}
use Rattle.page_cli.proofs.tables.put_pictures.Goals as goal

pub returns : goal.returns
returns g c =
    let figures = gathers_as (ap (flat_map (figure_at c.args.top)) c.listed.ensures) c.put_figures.ensures in
    let values = gathers_as (ap values_text c.listed-2.ensures) c.put_values.ensures in
    gathers_then (gathers_then (gathers_then (gathers_then c.push.ensures.gathers figures) c.push-2.ensures.gathers) values) c.push-3.ensures.gathers
