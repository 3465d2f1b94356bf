use Rattle.coz_files.proofs.GatheredLemmas.{gathers_then}
use Rattle.command_texts.proofs.latency_text.put_area.Goals as goal

pub returns : goal.returns
returns g c =
    gathers_then (gathers_then c.put_large.ensures c.put_mean.ensures) c.push.ensures.gathers
