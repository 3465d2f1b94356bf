use Rattle.coz_files.proofs.GatheredLemmas.{gathers_then}
use Rattle.command_texts.proofs.text.put_visit_head.Goals as goal

pub returns : goal.returns
returns g c =
    gathers_then c.put_named.ensures c.put_named-2.ensures
