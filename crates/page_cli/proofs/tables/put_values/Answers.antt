use Rattle.coz_files.proofs.GatheredLemmas.{gathers_then}
use Rattle.page_cli.proofs.tables.put_values.Goals as goal

pub returns : goal.returns
returns g c =
    gathers_then (gathers_then (gathers_then c.push.ensures.gathers c.push-2.ensures.gathers) c.put_all_steps.ensures) c.push-3.ensures.gathers
