use Rattle.coz_files.proofs.GatheredLemmas.{gathers_then}
use Rattle.command_texts.specs.Text.{net_visit_text}
use Rattle.command_texts.proofs.short_text.put_net_visit.Goals as goal

pub returns : goal.returns
unfolding net_visit_text
returns g c =
    gathers_then c.put_visit_head.ensures c.put_line.ensures
