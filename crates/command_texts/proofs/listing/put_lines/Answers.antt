use Rattle.coz_files.proofs.GatheredLemmas.{gathers_then}
use Rattle.command_texts.proofs.listing.put_lines.Goals as goal

pub returns : goal.returns
returns g c =
    gathers_then c.put_line.ensures c.put_index_lines.ensures
