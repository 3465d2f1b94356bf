use Rattle.coz_files.proofs.GatheredLemmas.{gathers_then}
use Rattle.page_cli.proofs.page.put_head.Goals as goal

pub returns : goal.returns
returns g c =
    let title = gathers_then c.push.ensures.gathers c.put_title.ensures in
    let heading = gathers_then (gathers_then title c.push-2.ensures.gathers) c.put_heading.ensures in
    gathers_then (gathers_then heading c.push-3.ensures.gathers) c.put_beside.ensures
