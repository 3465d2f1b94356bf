use Rattle.coz_files.proofs.GatheredLemmas.{gathers_then}
use Rattle.command_texts.specs.Text.{hart_text}
use Rattle.command_texts.proofs.text.put_hart.Goals as goal

pub returns : goal.returns
unfolding hart_text
returns g c =
    gathers_then (gathers_then (gathers_then c.put_named.ensures c.put_named-2.ensures) c.put_named-3.ensures) c.put_line.ensures
