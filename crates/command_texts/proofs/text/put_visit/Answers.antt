use Rattle.coz_files.proofs.GatheredLemmas.{gathers_then}
use Rattle.command_texts.specs.Text.{visit_text}
use Rattle.command_texts.proofs.text.put_visit.Goals as goal

pub returns : goal.returns
unfolding visit_text
returns g c =
    gathers_then (gathers_then (gathers_then c.put_visit_head.ensures c.put_named.ensures) c.put_named-2.ensures) c.put_line.ensures
