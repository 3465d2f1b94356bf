use Rattle.coz_files.proofs.GatheredLemmas.{gathers_then}
use Rattle.page_charts.proofs.words.put_items.Goals as goal

pub returns : goal.returns
returns g c = gathers_then (gathers_then c.push.ensures.gathers c.put_each.ensures) c.push-2.ensures.gathers
