use Rattle.coz_files.proofs.GatheredLemmas.{gathers_then}
use Rattle.page_cli.proofs.runs.put_warned.Goals as goal

pub returns : goal.returns
returns g c =
    gathers_then (gathers_then (gathers_then c.put_named.ensures c.push.ensures.gathers) c.put_kinds.ensures) c.push-2.ensures.gathers
