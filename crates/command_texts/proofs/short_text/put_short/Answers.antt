use Rattle.coz_files.proofs.GatheredLemmas.{gathers_then}
use Rattle.command_texts.specs.Text.{really_text}
use Rattle.command_texts.proofs.short_text.put_short.Goals as goal

pub returns : goal.returns
unfolding really_text
returns g c =
    gathers_then (gathers_then c.put_outcome.ensures c.put_net_visits.ensures) c.put_output.ensures
