use Rattle.coz_files.proofs.GatheredLemmas.{gathers_then}
use Rattle.command_texts.specs.LatencyText.{latency_line}
use Rattle.command_texts.proofs.latency_text.put_latency.Goals as goal

pub returns : goal.returns
unfolding latency_line
returns g c =
    gathers_then (gathers_then c.put_run.ensures c.put_counts.ensures) c.put_area.ensures
