use Rattle.coz_files.proofs.GatheredLemmas.{gathers_then}
use Rattle.command_texts.specs.Text.{outcome_text}
use Rattle.command_texts.proofs.text.put_outcome.Goals as goal

pub returns : goal.returns
unfolding outcome_text
returns g c =
    gathers_then (gathers_then (gathers_then (gathers_then (gathers_then c.put_end.ensures c.put_line.ensures) c.put_line-2.ensures) c.put_line-3.ensures) c.put_line-4.ensures) c.put_line-5.ensures
