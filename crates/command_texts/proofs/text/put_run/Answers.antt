use Rattle.coz_files.proofs.GatheredLemmas.{gathers_then}
use Rattle.command_texts.specs.Text.{run_text}
use Rattle.command_texts.proofs.text.put_run.Goals as goal

pub returns : goal.returns
unfolding run_text
returns g c =
    gathers_then (gathers_then (gathers_then c.put_outcome.ensures c.put_harts.ensures) c.put_visits.ensures) c.put_output.ensures
