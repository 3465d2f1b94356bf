use Rattle.coz_files.proofs.GatheredLemmas.{gathers_then}
use Rattle.page_cli.proofs.runs.put_speedups_of.Goals as goal

pub returns : goal.returns
returns g c = gathers_then (gathers_then c.push.ensures.gathers c.put_each_speedup.ensures) c.push-2.ensures.gathers
