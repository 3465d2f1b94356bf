use Rattle.coz_files.proofs.GatheredLemmas.{gathers_then}
use Rattle.command_texts.proofs.latency_text.put_run.Goals as goal

pub returns : goal.returns
returns g c =
    gathers_then (gathers_then (gathers_then c.put_named.ensures c.push.ensures.gathers) c.put_ending.ensures) c.put_named-2.ensures
