use Rattle.coz_files.proofs.GatheredLemmas.{gathers_then}
use Rattle.page_cli.proofs.tables.put_fold.Goals as goal

pub returns : goal.returns
returns g c =
    let head = gathers_then (gathers_then c.put_named.ensures c.push.ensures.gathers) c.push-2.ensures.gathers in
    gathers_then (gathers_then head c.put_rows.ensures) c.push-3.ensures.gathers
