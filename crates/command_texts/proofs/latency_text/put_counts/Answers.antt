use Rattle.coz_files.proofs.GatheredLemmas.{gathers_then}
use Rattle.command_texts.proofs.latency_text.put_counts.Goals as goal

pub returns : goal.returns
returns g c =
    gathers_then (gathers_then (gathers_then c.put_named.ensures c.put_named-2.ensures) c.put_named-3.ensures) c.put_named-4.ensures
